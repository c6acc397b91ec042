use Rattle.std.proofs.Common.{◌<◌, length, arith, refl, []}
use Rattle.std.proofs.lemmas.List.{get_or_default}
use Rattle.relations.proofs.Shown.{shown}
use Rattle.relations.proofs.checking.is_shown.Goals as goal

pub returns-clause-presentation : goal.returns-clause-presentation
returns-clause-presentation g c = λ t.
    let some : 0 < length c.args.words.now =
    omega (arith, c.if-words-order.false, c.order.ensures.range, c.order.ensures.value) in
    shown c.args.table.now c.args.elements.now c.args.relations.now c.in_ok-rules.rules.relations.items
    c.args.words.now c.order.ensures.monoid c.requires.elements (c.if-not-uses_first.ensures refl)
    (c.if-not-hold.ensures refl)
    (rw (get_or_default c.args.words.now 0 _ [] some) at (c.if-not-is_empty.ensures.0 refl))
    (c.if-not-are_named.ensures refl)
    c.in_ok-rules.ensures
    (c.steps_hold-shown.ensures t)
