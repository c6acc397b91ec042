-- Outcomes of normal play: each position has one, and nim sums tell it.
-- By induction on the measure.
use Rattle.std.proofs.Common.{◌≡◌, ◌≢◌, ◌↔◌, ℕ, zero, suc, ◌<◌, ◌⊎◌, List, sym, ◌∙◌, inl, inr, arith}
use native.Mathlib.Decide.{ℕ_discrete}
use Rattle.misere_theory.specs.Games.{Move, measure, IsPosition}
use Rattle.misere_theory.specs.Kinds.{IsHeapIn}
use Rattle.misere_theory.proofs.Outcomes.{some_or_all_moves}
use Rattle.misere_theory.proofs.Sums.{move_smaller, move_kept}
use Rattle.misere_theory.proofs.Counting.{kept_in}
use Rattle.nim_tails.specs.Normal.{IsNormalP, IsNormalN, nim_sum, AreNimValues}
use Rattle.nim_tails.specs.Normal.IsNormalP.{NoneWins}
use Rattle.nim_tails.specs.Normal.IsNormalN.{OneWins}
use Rattle.nim_tails.proofs.NormalSums.{moves_change, smaller_reached}

-- no position is both
mutual
  pub not_both : {code X : List ℕ} → IsNormalP code X → IsNormalN code X → ⊥
  not_both (NoneWins all) (OneWins k p) = never_both (all _ k) p

  never_both : {code X : List ℕ} → IsNormalN code X → IsNormalP code X → ⊥
  never_both (OneWins k p) (NoneWins all) = not_both p (all _ k)

-- what a P-position leads to
pub p_leads_to_normal_n : {code X : List ℕ} → IsNormalP code X → (Z : List ℕ) → Move code X Z
    → IsNormalN code Z
p_leads_to_normal_n (NoneWins all) = all

determined_within : (code : List ℕ) (t : ℕ) (X : List ℕ) → measure X < t
    → IsNormalP code X ⊎ IsNormalN code X
determined_within code zero X h = absurd (omega arith)
determined_within code (suc t) X h =
    elim (some_or_all_moves code (IsNormalP code) (IsNormalN code) X
    (λ Y m. determined_within code t Y (omega (arith, move_smaller m))))
    [ inl (Y, m, p) ↦ inr (OneWins m p) | inr all ↦ inl (NoneWins all) ]

-- each position is P or N
pub determined : (code X : List ℕ) → IsNormalP code X ⊎ IsNormalN code X
determined code X = determined_within code (suc (measure X)) X (omega arith)

module _ (M : ℕ) (code : List ℕ) (G : ℕ → ℕ) (good : AreNimValues M code G) where
  told_within : (t : ℕ) (X : List ℕ) → measure X < t → IsPosition (IsHeapIn M) X
      → (nim_sum G X ≡ 0 → IsNormalP code X) × (nim_sum G X ≢ 0 → IsNormalN code X)
  told_within zero X h p = absurd (omega arith)
  told_within (suc t) X h p = (
    λ e. NoneWins (λ Z m.
        (told_within t Z (omega (arith, move_smaller m)) (move_kept (IsHeapIn M) code (kept_in M code) m p)).1
        (λ f. moves_change M code G good p m (e ∙ sym f))),
    λ f.
        let (Y, m, e) = smaller_reached M code G good X p 0 (omega arith) in
        OneWins m
        ((told_within t Y (omega (arith, move_smaller m)) (move_kept (IsHeapIn M) code (kept_in M code) m p)).0 e),
  )

  -- Sprague and Grundy: the previous player wins exactly if the nim sum is 0
  pub nim_sums_tell : (X : List ℕ) → IsPosition (IsHeapIn M) X
      → IsNormalP code X ↔ (nim_sum G X ≡ 0)
  nim_sums_tell X p =
      let (zero_p, other_n) = told_within (suc (measure X)) X (omega arith) p in (
        λ q. elim (ℕ_discrete (nim_sum G X) 0) [ yes e ↦ e | no f ↦ absurd (not_both q (other_n f)) ],
        zero_p,
      )
