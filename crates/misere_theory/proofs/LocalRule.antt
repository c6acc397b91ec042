-- Whatever is said of positions is right of each exactly if it obeys the rule of misère outcomes at each.
-- By induction on the measure of a position.
use Rattle.std.proofs.Common.{◌≡◌, ℕ, suc, zero, ◌<◌, ◌⊎◌, ◌↔◌, Bool, true, false, List, sym, ◌∙◌, inl, inr, arith}
use Rattle.std.proofs.lemmas.Bool.{false_from_ne_true, true≢false, cases_Bool}
use Rattle.misere_theory.specs.Games.{Move, measure, IsP, IsPosition}
use Rattle.misere_theory.specs.Games.IsP.{AllLose}
use Rattle.misere_theory.specs.Parts.{IsPart}
use Rattle.misere_theory.specs.Labels.{PredictsOutcomes, ObeysRule, BreaksRule}
use Rattle.misere_theory.proofs.Sums.{move_smaller, move_kept}
use Rattle.misere_theory.proofs.Outcomes.{not_both, determined, some_or_all_moves, movable, p_moves, p_leads_to_n}

pub true_or_false : (b : Bool) → (b ≡ true) ⊎ (b ≡ false)
true_or_false = cases_Bool

module _ (code : List ℕ) (says : List ℕ → Bool) where
  -- what is right of a position and of its options obeys the rule there, and what obeys it there and is
  -- right of the options is right
  module _ (X : List ℕ) (there : (Y : List ℕ) → Move code X Y → IsP code Y ↔ (says Y ≡ true)) where
    pub obeyed_where_right : IsP code X ↔ (says X ≡ true) → ObeysRule code says X
    obeyed_where_right here = (
      λ t. let p : IsP code X = here.1 t in (
        p_moves p,
        λ Y i. false_from_ne_true _ (λ u. not_both ((there Y i).1 u) (p_leads_to_n p Y i)),
      ),
      λ r. let ((Y, i), all) = r in here.0 (AllLose i (λ Z j. elim (determined code Z) [
        | inl p ↦ absurd (true≢false (sym ((there Z j).0 p) ∙ all Z j))
        | inr q ↦ q
      ])),
    )

    pub right_where_obeyed : ObeysRule code says X → IsP code X ↔ (says X ≡ true)
    right_where_obeyed rule = (
      λ p. rule.1 (
        p_moves p,
        λ Y i. false_from_ne_true _ (λ t. not_both ((there Y i).1 t) (p_leads_to_n p Y i)),
      ),
      λ t. let ((Y, i), all) = rule.0 t in AllLose i (λ Z j. elim (determined code Z) [
        | inl p ↦ absurd (true≢false (sym ((there Z j).0 p) ∙ all Z j))
        | inr q ↦ q
      ]),
    )

  -- the rule is obeyed or broken at a position, and not both
  pub not_obeyed_and_broken : (X : List ℕ) → ObeysRule code says X → BreaksRule code says X → ⊥
  not_obeyed_and_broken X h (inl (t, inl none)) = let (some, all) = h.0 t in none some.0 some.1
  not_obeyed_and_broken X h (inl (t, inr (Y, i, u))) = true≢false (sym u ∙ (h.0 t).1 Y i)
  not_obeyed_and_broken X h (inr (f, s, all)) = true≢false (sym (h.1 (s, all)) ∙ f)

  pub obeyed_or_broken : (X : List ℕ) → ObeysRule code says X ⊎ BreaksRule code says X
  obeyed_or_broken X =
      let moves =
      some_or_all_moves code (λ Y. says Y ≡ true) (λ Y. says Y ≡ false) X
      (λ Y i. true_or_false (says Y)) in
      elim (true_or_false (says X)) [
        | inl t ↦ elim moves [
          | inl (Y, i, u) ↦ inr (inl (t, inr (Y, i, u)))
          | inr all ↦ elim (movable code X) [
            | inl (Y, i) ↦ inl (λ _. ((Y, i), all), λ _. t)
            | inr none ↦ inr (inl (t, inl none))
          ]
        ]
        | inr f ↦ elim moves [
          | inl (Y, i, u) ↦ inl (
            λ t. absurd (true≢false (sym t ∙ f)),
            λ r. absurd (true≢false (sym u ∙ r.1 Y i)),
          )
          | inr all ↦ elim (movable code X) [
            | inl (Y, i) ↦ inr (inr (f, (Y, i), all))
            | inr none ↦ inl (
              λ t. absurd (true≢false (sym t ∙ f)),
              λ r. let ((Y, i), _) = r in absurd (none Y i),
            )
          ]
        ]
      ]

module _ (heap : ℕ → Type 0) (code : List ℕ) (part : IsPart heap code) (says : List ℕ → Bool) where
  right_within : ((X : List ℕ) → IsPosition heap X → ObeysRule code says X) → (k : ℕ) (X : List ℕ)
      → measure X < k → IsPosition heap X → IsP code X ↔ (says X ≡ true)
  right_within rule zero X h w = absurd (omega arith)
  right_within rule (suc k) X h w =
      right_where_obeyed code says X
      (λ Z i. right_within rule k Z (omega (arith, move_smaller i)) (move_kept heap code part i w))
      (rule X w)

  pub right_by_rule : ((X : List ℕ) → IsPosition heap X → ObeysRule code says X)
      → PredictsOutcomes heap code says
  right_by_rule rule X w = right_within rule (suc (measure X)) X (omega arith) w

  pub rule_of_right : PredictsOutcomes heap code says → (X : List ℕ) → IsPosition heap X
      → ObeysRule code says X
  rule_of_right right X w =
      obeyed_where_right code says X (λ Y i. right Y (move_kept heap code part i w)) (right X w)
