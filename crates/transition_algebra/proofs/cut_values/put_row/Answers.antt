use Rattle.std.proofs.Common.{◌≡◌, ◌+◌, ◌-◌, ◌∙◌, ap, ap₂, sym, arith}
use Rattle.std.proofs.lemmas.List.{get_or_default}
use Rattle.monoid_table.specs.Grids.{times_in}
use Rattle.transition_algebra.specs.Heaps.{left_value}
use Rattle.transition_algebra.specs.Pairs.{one}
use Rattle.heap_options.specs.declared.left.Left.TheVariants.{Three}
use Rattle.transition_algebra.proofs.Coming.{part_more, part_none}
use Rattle.transition_algebra.proofs.cut_values.put_row.Goals as goal

pub returns : goal.returns
returns g c =
    sym (part_none c.args.scene.now.table.now c.args.scene.now.phi.now
    (λ e. Three c.args.first e (c.args.whole - c.args.first - e)) c.loop-second.second
    (c.min-last.result + 1 - c.loop-second.second) c.loop-second.all
    (let b = c.loop-second-test.false in omega arith)) ∙ c.loop-second.invariant

pub loop-second-preserved : goal.loop-second-preserved
loop-second-preserved g c =
    let table = c.args.scene.now.table.now in
    let phi = c.args.scene.now.phi.now in
    let m = c.args.whole in
    let a = c.args.first in
    let b = c.loop-second.second in
    let d = m - a - b in
    let ps = c.args.pairs.now in
    let from = c.loop-second.auto.second in
    let below = c.loop-second-test.true in
    let within = c.requires.shown.within in
    let some = c.requires.some in
    let first = c.requires.first in
    let x =
    ap (λ p. p.value) (get_or_default ps (a - 1) c.index-pairs-first.result one (omega arith))
    ∙ c.requires.shown.elements a (omega arith) (omega arith) in
    let y =
    ap (λ p. p.value) (get_or_default ps (b - 1) c.index-pairs-second.result one (omega arith))
    ∙ c.requires.shown.elements b (omega arith) (omega arith) in
    let z =
    ap (λ p. p.value) (get_or_default ps (d - 1) c.index-pairs-whole.result one (omega arith))
    ∙ c.requires.shown.elements d (omega arith) (omega arith) in
    let rest = c.times-rest.ensures.value ∙ ap₂ (times_in table) y z in
    let v : c.times.result ≡ left_value table phi (Three a b d) =
    c.times.ensures.value ∙ ap₂ (times_in table) x rest in
    part_more table phi (λ e. Three a e (m - a - e)) b (c.min-last.result + 1) c.loop-second.all
    c.put.new.self c.times.result below v c.put.ensures
    ∙ c.loop-second.invariant
