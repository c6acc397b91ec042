use Rattle.std.proofs.Common.{◌≡◌, ◌↔◌, ℕ, Bool, true, IfSome, List, refl, subst}
use Rattle.misere_theory.specs.Labels.{BreaksRule, says_by}
use Rattle.dominance.specs.Triples.{claim_by}
use Rattle.dominance_checker.specs.Ranks.{label_by}
use Rattle.whole_checker.proofs.rule.rule_fails_at.Goals as goal

pub returns-in-Some : goal.returns-in-Some
returns-in-Some g c = λ t.
    let said = says_by (claim_by (label_by c.args.s c.args.ranks.now)) in
    (subst
    (λ o. IfSome o (λ b. (says : List ℕ → Bool) → ((X : List ℕ) → says X ≡ said X)
    → (b ≡ true) ↔ BreaksRule c.args.code.now says c.args.heaps.now))
    c.in-Some.is c.in_ok-fails.ensures said (λ X. refl)).0 t
