use Rattle.std.proofs.Common.{◌≡◌, ◌<◌, ◌≤◌, ◌-◌, length, true, false, subst, arith}
use Rattle.octal_code.specs.Bits.{allows}
use Rattle.octal_code.specs.declared.leaving.Leaving.TheVariants.{ThreeHeaps}
use Rattle.heap_options.specs.Options.{last_first}
use Rattle.heap_options.specs.Walks.{at_triples, after_row, after_all}
use Rattle.heap_options.proofs.Turns.{single_turn, splits_end, row_end}
use Rattle.heap_options.proofs.walk.Walk.turn.Goals as goal

pub returns-in-Everything : goal.returns-in-Everything
returns-in-Everything c =
    single_turn c.args.code.now c.args.self.now c.take_single.new.self c.take_single.result
    c.requires c.in-Everything.is c.take_single.ensures.left c.take_single.ensures.walk

pub returns-then-pass_splits-eq0 : goal.returns-then-pass_splits-eq0
returns-then-pass_splits-eq0 c =
    let code = c.args.code.now in
    let t = c.pass_last_split.new.self in
    let same = c.pass_splits.ensures.none c.if-pass_splits-eq0.true in
    let (triples, more) =
    subst (λ w. (allows code w.away ThreeHeaps ≡ true → t ≡ at_triples w)
    × (allows code w.away ThreeHeaps ≡ false → w.away < length code → t ≡ after_all w)) same
    (c.pass_last_split.ensures.triples, c.pass_last_split.ensures.more) in
    splits_end code c.args.self.now t c.in-Splits.part c.requires c.in-Splits.is
    (let n = c.pass_splits.ensures.count in let z = c.if-pass_splits-eq0.true in omega (arith, n, z))
    triples more

pub returns-then-pass_triples-eq0 : goal.returns-then-pass_triples-eq0
returns-then-pass_triples-eq0 c =
    let code = c.args.code.now in
    let t = c.pass_row.new.self in
    let a = c.in-Triples.first in
    let same = c.pass_triples.ensures.none c.if-pass_triples-eq0.true in
    let (row, more) =
    subst (λ w. (a < last_first (w.heap - w.away) w.most → t ≡ after_row w a)
    × (last_first (w.heap - w.away) w.most ≤ a → w.away < length code → t ≡ after_all w)) same
    (c.pass_row.ensures.row, c.pass_row.ensures.more) in
    row_end code c.args.self.now t a c.in-Triples.second c.requires c.in-Triples.is
    (let n = c.pass_triples.ensures.count in let z = c.if-pass_triples-eq0.true in
    omega (arith, n, z))
    row more
