-- The run that sets down the pair of a heap whose options are tried.
-- Past the last digit nothing is to come, and the next heap begins.
use Rattle.std.proofs.Common.{◌≡◌, ℕ, ◌+◌, ◌-◌, ◌≤◌, inl, false, List, [], ◌∷◌, ◌++◌, length, refl, sym, ◌∙◌, ap, subst, arith}
use Rattle.std.specs.List.{flat_map, range_with_len}
use Rattle.std.specs.FinSet as set
use Rattle.std.specs.Ordering.{nat_cmp}
use native.Mathlib.Decide.{dec_le}
use Rattle.monoid_table.specs.Grids.{Grid}
use Rattle.octal_code.specs.Bits.{allows}
use Rattle.octal_code.specs.declared.leaving.Leaving.TheVariants.{TwoHeaps}
use Rattle.heap_options.specs.Options.{options_at}
use Rattle.heap_options.specs.Walks.{options_from}
use Rattle.heap_options.proofs.WalkLaws.{no_bit, no_bit_three, none_untried}
use Rattle.heap_options.specs.declared.left.Left.TheVariants.{Two}
use Rattle.heap_options.specs.declared.walk.Untried.{Untried}
use Rattle.heap_options.specs.declared.walk.Untried.TheVariants.{Everything, Splits, Triples}
use Rattle.monoid_table.specs.Pretending.{Pretending, phi_at}
use Rattle.transition_algebra.specs.Heaps.{bound_of, largest_part}
use Rattle.transition_algebra.specs.Work.{tries, turns}
use Rattle.transition_algebra.specs.Trials.{seen_at, with_left, after_heap, IsUntried, trying_of, IsTrial, IsRun}
use Rattle.transition_algebra.specs.OverSets.{Pair, Trial}
use Rattle.transition_algebra.proofs.Coming.{part_none}
use Rattle.transition_algebra.proofs.Turning.{closing_turn}
use Rattle.transition_algebra.proofs.Running.{moved_on}

module _ (code : List ℕ) (table : Grid) (phi : Pretending) where
  -- past the last digit no splits are in hand
  none_beside : (n most j : ℕ) (seen : set.FinSet nat_cmp) (stage : Untried) → length code ≤ j
      → IsUntried code n most j stage → seen_at table phi (n - j) seen stage ≡ seen
  unfolding with_left
  none_beside n most j seen Everything l is = refl
  none_beside n most j seen (Splits a) l is =
      let bit : allows code j TwoHeaps ≡ false = no_bit code j l in
      part_none table phi (λ b. Two b (n - j - b)) 1 (a - 1) seen (elim (dec_le 2 a) [
        | yes two ↦ absurd (let f = sym bit ∙ (is.1 two).0 in cc)
        | no few ↦ omega arith
      ])
  none_beside n most j seen (Triples a b) l is =
      absurd (let f = sym (no_bit_three code j l) ∙ is.0 in cc)

  pub all_to_come : (n : ℕ) → options_from code n (largest_part phi) 0 ≡ tries code phi n
  all_to_come n = let e : length code - 0 ≡ length code = omega arith in
      ap (λ k. flat_map (options_at code n (largest_part phi)) (range_with_len 0 k)) e

  pub run_close : (s t : Trial) (ps qs : List Pair) (units r v : ℕ) → IsTrial code table phi s ps
      → s.walk.heap ≤ bound_of code phi → length code ≤ s.walk.away → 1 ≤ units
      → r ≡ 1
      → t ≡ after_heap s
      → v ≡ phi_at phi s.walk.heap
      → qs ≡ ps ++ (record { value = v; options = s.seen } ∷ [])
      → IsRun code table phi s t qs units r
  unfolding with_left
  run_close s t ps qs units r v is going past some count after value more =
      let most = largest_part phi in
      let u = after_heap s in
      let next : trying_of code table phi u qs
      ≡ turns code table phi 1 (trying_of code table phi s ps) =
      ap (λ xs. record { heap = s.walk.heap + 1; coming = xs; seen = set.empty; pairs = qs })
      (all_to_come (s.walk.heap + 1))
      ∙ closing_turn code table phi (trying_of code table phi s ps) v qs going
      (none_untried code s.walk.heap most s.walk.away s.walk.untried past) value
      (more ∙ ap (λ w. ps ++ (record { value = v; options = w } ∷ []))
      (sym (none_beside s.walk.heap most s.walk.away s.seen s.walk.untried past is.untried_in))) in
      subst (λ w. IsRun code table phi s w qs units r) (sym after)
      (subst (λ n. IsRun code table phi s u qs units n) (sym count)
      (moved_on code table phi s u ps qs units 1 is going next refl (omega arith) refl refl
      (omega arith) tt some (inl (omega arith)) (omega arith)))
