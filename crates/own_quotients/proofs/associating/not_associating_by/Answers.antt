use Rattle.std.proofs.Common.{◌≡◌, ◌==◌, ◌∙◌, ℕ, List, false, true, subst}
use Rattle.std.specs.List.{list_any}
use Rattle.own_quotients.proofs.associating.not_associating_by.Goals as goal

pub returns-then-not-holds-clause-none : goal.returns-then-not-holds-clause-none
returns-then-not-holds-clause-none g c =
    λ yes.
    let clash : false ≡ true =
    subst (λ (heaps : List ℕ). false ≡ list_any (λ z. z == c.args.y) heaps) c.heaps.ensures.value
    c.if-not-holds.ensures
    ∙ yes in
    absurd cc
