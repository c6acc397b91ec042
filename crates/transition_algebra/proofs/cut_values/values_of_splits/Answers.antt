use Rattle.std.proofs.Common.{◌≡◌, ◌+◌, ◌-◌, ◌∙◌, ap, ap₂, sym, arith}
use Rattle.std.proofs.lemmas.List.{get_or_default}
use Rattle.monoid_table.specs.Grids.{times_in}
use Rattle.transition_algebra.specs.Heaps.{left_value}
use Rattle.heap_options.specs.declared.left.Left.TheVariants.{Two}
use Rattle.transition_algebra.specs.Pairs.{one}
use Rattle.transition_algebra.proofs.Coming.{part_more, part_none}
use Rattle.transition_algebra.proofs.cut_values.values_of_splits.Goals as goal

pub loop-part-preserved : goal.loop-part-preserved
loop-part-preserved g c =
    let table = c.args.scene.now.table.now in
    let phi = c.args.scene.now.phi.now in
    let ps = c.args.pairs.now in
    let n = c.loop-part.part in
    let m = c.args.whole - c.loop-part.part in
    let b = c.loop-part.auto.part in
    let t = c.loop-part-test.true in
    let within = c.requires.shown.within in
    let x =
    ap (λ p. p.value) (get_or_default ps (n - 1) c.index-pairs-part.result one (omega arith))
    ∙ c.requires.shown.elements n (omega arith) (omega arith) in
    let y =
    ap (λ p. p.value) (get_or_default ps (m - 1) c.index-pairs-whole.result one (omega arith))
    ∙ c.requires.shown.elements m (omega arith) (omega arith) in
    let v : c.times.result ≡ left_value table phi (Two n m) =
    c.times.ensures.value ∙ ap₂ (times_in table) x y in
    part_more table phi (λ b. Two b (c.args.whole - b)) n (c.min-last.result + 1) c.loop-part.all
    c.put.new.self c.times.result t v c.put.ensures
    ∙ c.loop-part.invariant

pub returns : goal.returns
returns g c =
    sym (part_none c.args.scene.now.table.now c.args.scene.now.phi.now (λ b. Two b (c.args.whole - b)) c.loop-part.part
    (c.min-last.result + 1 - c.loop-part.part) c.loop-part.all
    (let b = c.loop-part-test.false in omega arith)) ∙ c.loop-part.invariant
