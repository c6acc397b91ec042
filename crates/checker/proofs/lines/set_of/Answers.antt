use Rattle.std.proofs.Common.{rules, ◌==◌}
use Rattle.std.proofs.lemmas.List.Folds.{list_any_more}
use Rattle.std.specs.FinSet.{members}
use Rattle.checker.proofs.lines.set_of.Goals as goal

pub loop-x-init : goal.loop-x-init
loop-x-init g c = λ x. grind (members, rules)

pub loop-x-preserved : goal.loop-x-preserved
loop-x-preserved g c = λ x.
    let h = c.loop-x.invariant x in
    let more = list_any_more (λ y. y == x) c.args.elements.now c.loop-x.x-index 0 (search rules) in
    let put = c.insert.ensures.put (search rules) in
    grind (members, rules)
