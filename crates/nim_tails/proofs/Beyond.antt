-- A game whose large heaps are in a kernel of normal play is normal play but for positions of small
-- heaps. By induction on the measure.
use Rattle.std.proofs.Common.{◌≡◌, ◌↔◌, ℕ, zero, suc, ◌<◌, ◌≤◌, List, [], ◌∷◌, inl, inr, arith}
use Rattle.misere_theory.specs.Games.{IsCode, Move, measure, IsHeap, IsP, IsPosition}
use Rattle.misere_theory.specs.Games.IsP.{AllLose}
use Rattle.misere_theory.specs.Kinds.{IsHeapIn}
use Rattle.misere_theory.specs.Quotients.{Claim, Represents, value}
use Rattle.misere_theory.proofs.Outcomes.{determined, not_both, p_leads_to_n}
use Rattle.misere_theory.proofs.Sums.{move_smaller, move_kept, heaps_kept}
use Rattle.nim_tails.specs.Normal.{IsNormalP, nim_sum, AreNimValues}
use Rattle.nim_tails.specs.Normal.IsNormalP.{NoneWins}
use Rattle.nim_tails.specs.NormalTails.{IsRegular, IsNormalAbove, IsNormalKernel, IsLongEnough}
use Rattle.nim_tails.proofs.Outcomes.{determined as normal_determined, not_both as normal_not_both, p_leads_to_normal_n, nim_sums_tell}
use Rattle.nim_tails.proofs.Regular.{above_or_within, moves_above, can_move}
use Rattle.nim_tails.proofs.Ideals.{multiple_of_kernel}
use Rattle.nim_tails.proofs.NormalKernel.{multiple_by_heap, kernel_tells}

-- a position that has moves, all to positions with the same outcomes, has the same outcomes
same_by_options : (code X : List ℕ) → ((Y : List ℕ) × Move code X Y)
    → ((Y : List ℕ) → Move code X Y → IsP code Y ↔ IsNormalP code Y)
    → IsP code X ↔ IsNormalP code X
same_by_options code X (Y, m) same = (
  λ p. NoneWins (λ Z k. elim (normal_determined code Z) [
    | inl q ↦ absurd (not_both ((same Z k).1 q) (p_leads_to_n p Z k))
    | inr n ↦ n
  ]),
  λ p. AllLose m (λ Z k. elim (determined code Z) [
    | inl q ↦ absurd (normal_not_both ((same Z k).0 q) (p_leads_to_normal_n p Z k))
    | inr n ↦ n
  ]),
)

module _
    (M N : ℕ) (code : List ℕ) (c : Claim) (e : ℕ) (G nim : ℕ → ℕ) (good : IsCode code)
    (right : Represents (IsHeapIn M) code c) (normal : IsNormalKernel M code c e G nim)
    (behind : (n : ℕ) → N < n → n ≤ M → c.times e (c.phi n) ≡ c.phi n)
    (long : IsLongEnough M code N) where
  some : 0 < M
  some = let l = long.more in omega arith

  value_multiple : (X : List ℕ) → IsPosition (IsHeapIn M) X → IsRegular M c N X
      → c.times e (value c X) ≡ value c X
  value_multiple X p (inl h) = multiple_by_heap M code c e G nim right normal N some behind X p h
  value_multiple X p (inr k) = multiple_of_kernel c right.monoid e normal.regular (value c X) k.1

  same_within : (t : ℕ) (X : List ℕ) → measure X < t → IsPosition IsHeap X → IsRegular M c N X
      → IsP code X ↔ IsNormalP code X
  same_within zero X h p r = absurd (omega arith)
  same_within (suc t) X h p r = elim (above_or_within M some X p) [
    | inr q ↦ kernel_tells M code c e G nim right normal X q (value_multiple X q r)
    | inl a ↦
        same_by_options code X (can_move M N code good long X a)
        (λ Y m. same_within t Y (omega (arith, move_smaller m))
        (move_kept IsHeap code (heaps_kept code) m p) (inl (moves_above M N code good long m a)))
  ]

  pub same : IsNormalAbove M code c N
  same X p r = same_within (suc (measure X)) X (omega arith) p r

-- and its outcome is told by any nim sequence
pub same_sums : (M N : ℕ) (code : List ℕ) (c : Claim) (G : ℕ → ℕ) (X : List ℕ)
    → IsNormalAbove M code c N → AreNimValues 0 code G → IsPosition IsHeap X → IsRegular M c N X
    → IsP code X ↔ (nim_sum G X ≡ 0)
same_sums M N code c G X above good p r =
    let (there, back) = above X p r in
    let (to_sum, from_sum) = nim_sums_tell 0 code G good X (whole X p) in
    (λ i. to_sum (there i), λ z. back (from_sum z))
  where
    whole : (X : List ℕ) → IsPosition IsHeap X → IsPosition (IsHeapIn 0) X
    whole [] p = tt
    whole (n ∷ X) p = ((p.0, λ l. absurd (omega arith)), whole X p.1)
