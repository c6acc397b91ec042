use Rattle.std.proofs.Common.{List, ℕ, subst}
use Rattle.misere_theory.specs.Labels.{BreaksRule, says_by}
use Rattle.dominance.specs.Triples.{claim_by}
use Rattle.dominance_text.specs.Labels.{label_of}
use Rattle.whole_checker.proofs.laws.broken_rules_show_wrong_claims.Goals as goal

pub returns : goal.returns
returns k = λ c code X breaks right.
    let (same, position, broken) = breaks in
    let says = says_by (claim_by (label_of c)) in
    k.obeyed_rules_predict.ensures.wrong c.code says X
    (subst (λ code. BreaksRule code says X) same broken) (right X position)
    (λ Y i. right Y (k.outcomes_are_determined.ensures.stays c.code X Y i position))
