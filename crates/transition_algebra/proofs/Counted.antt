-- Which heaps have an element, and how large the bound is.
-- By the two cases: all heaps, or those up to a last one.
use Rattle.std.proofs.Common.{◌≡◌, ℕ, ◌+◌, ◌-◌, ◌*◌, ◌<◌, ◌≤◌, List, length, inl, inr, arith, eq-zero-or-pos}
use Rattle.misere_theory.specs.Games.{leaves_three}
use Rattle.misere_theory.specs.Pairs.{heap_bound}
use Rattle.misere_theory.proofs.Bound.{bound_with, bound_without}
use Rattle.misere_theory.proofs.LocalRule.{true_or_false}
use Rattle.misere_theory.proofs.Counting.{kind_full, kind_partial, bound_whole, bound_part, bound_counts}
use Rattle.monoid_table.specs.Pretending.{Pretending, IsPretending, kind_of, HasElement}
use Rattle.transition_algebra.specs.Heaps.{bound_of}

-- the heaps up to the bound have elements
pub counted : (code : List ℕ) (phi : Pretending) (n : ℕ) → 1 ≤ n → n ≤ bound_of code phi
    → HasElement phi n
counted code phi n one l =
    bound_counts (kind_of phi) code (length code - 1) phi.start phi.period n (one, l)

-- and so have what is left of them
pub smaller : (phi : Pretending) (n a : ℕ) → HasElement phi n → 1 ≤ a → a ≤ n → HasElement phi a
smaller phi n a h one l = (one, λ some. let b = h.1 some in omega arith)

module _ (phi : Pretending) (pretending : IsPretending phi) where
  pub full_kind : kind_of phi ≡ 0 → 1 ≤ phi.period
  full_kind e = elim (eq-zero-or-pos phi.period) [
    | inl z ↦ let k = kind_partial phi.start phi.period z in let s = pretending.some in
        absurd (omega arith)
    | inr pos ↦ pos
  ]

  pub part_kind : 0 < kind_of phi → (phi.period ≡ 0) × (kind_of phi ≡ phi.start - 1)
  part_kind l = elim (eq-zero-or-pos phi.period) [
    | inl z ↦ (z, kind_partial phi.start phi.period z)
    | inr pos ↦ let k = kind_full phi.start phi.period pos in absurd (omega arith)
  ]

  pub kind_short : kind_of phi < phi.start + phi.period
  kind_short = elim (eq-zero-or-pos (kind_of phi)) [
    | inl z ↦ let s = pretending.from_one in omega arith
    | inr some ↦ let (z, e) = part_kind some in let s = pretending.from_one in omega arith
  ]

  heap_bound_range : (code : List ℕ) (k : ℕ) → heap_bound code k phi.start phi.period
      ≤ 3 * (phi.start + phi.period) + k
  heap_bound_range code k = elim (true_or_false (leaves_three code)) [
    | inl e ↦ let b = bound_with code k phi.start phi.period e in omega arith
    | inr e ↦ let b = bound_without code k phi.start phi.period e in omega arith
  ]

  bound_range : (code : List ℕ) → bound_of code phi
      ≤ 3 * (phi.start + phi.period) + (length code - 1)
  bound_range code = elim (eq-zero-or-pos (kind_of phi)) [
    | inl z ↦
        let e = bound_whole (kind_of phi) code (length code - 1) phi.start phi.period z in
        let r = heap_bound_range code (length code - 1) in
        omega arith
    | inr some ↦
        let e = bound_part (kind_of phi) code (length code - 1) phi.start phi.period some in
        let k = kind_short in
        omega arith
  ]

  pub bound_small : (code : List ℕ) → length code ≤ 17 → bound_of code phi ≤ 12307
  bound_small code few = let r = bound_range code in let s = pretending.short in omega arith
