use Rattle.std.proofs.Common.{inr, refl, subst}
use Rattle.relations.specs.Bases.{IsReducible}
use Rattle.relations.proofs.Bases.{reducible-vector}
use Rattle.relations.proofs.basis.leads_on_by.Goals as goal

pub returns-then-is_reducible : goal.returns-then-is_reducible
returns-then-is_reducible c = λ t.
    let n = c.args.letters in
    let relations = c.args.relations.now in
    inr (subst (IsReducible n relations) c.in-Some.ensures
    (reducible-vector n relations c.in-Some.more (c.if-is_reducible.ensures.0 refl)))
