-- The elements of heaps repeat, and are elements of the table.
-- A heap past start + period has the entry of its place in the period.
use Rattle.std.proofs.Common.{◌≡◌, ℕ, zero, suc, ◌+◌, ◌-◌, ◌%◌, ◌<◌, ◌≤◌, ltb, cond, true, false, List, ◌∷◌, length, get_or, slice_index, sym, ◌∙◌, ap, arith}
use Rattle.std.specs.List.{All}
use Rattle.std.proofs.lemmas.Bool.Decides.{nat_tests}
use Rattle.std.proofs.lemmas.Bool.{cond-true, cond-false}
use Rattle.std.proofs.lemmas.List.{get_or_past}
use Rattle.std.proofs.lemmas.List.Elements.{All-get_or}
use Rattle.std.proofs.Math.Nat.{add-mod_left, mod-eq_of_lt}
use native.Mathlib.Decide.{dec_le, dec_lt}
use Rattle.misere_theory.specs.Quotients.{Monoid}
use Rattle.heap_options.specs.declared.left.Left.{Left}
use Rattle.heap_options.specs.declared.left.Left.TheVariants.{Nothing, One, Two, Three}
use Rattle.monoid_table.specs.Grids.{Grid, times_in}
use Rattle.monoid_table.specs.Pretending.{Pretending, phi_at}
use Rattle.monoid_table.specs.PretendingTables.{IsInto}
use Rattle.transition_algebra.specs.Heaps.{left_value}

below : (m n : ℕ) → m < n → ltb m n ≡ true
below m n l = grind (arith, nat_tests)

not_below : (m n : ℕ) → n ≤ m → ltb m n ≡ false
not_below m n l = grind (arith, nat_tests)

-- the heap below start + period that has the element of the heap n
abbrev place : ℕ → ℕ → ℕ → ℕ
place start period n = cond (ltb n (start + period)) n (start + (n - start) % period)

-- past the start the place repeats
place_repeats : (start period n : ℕ) → start ≤ n
    → place start period (period + n) ≡ place start period n
place_repeats start period n l =
    let e : period + n - start ≡ period + (n - start) = omega arith in
    let far : place start period (period + n) ≡ start + (n - start) % period =
    cond-false (ltb (period + n) (start + period)) (period + n)
    (start + (period + n - start) % period)
    (not_below (period + n) (start + period) (omega arith))
    ∙ ap (λ v. start + v % period) e ∙ ap (λ v. start + v) (add-mod_left period (n - start)) in
    far ∙ sym (elim (dec_le (start + period) n) [
      | yes h ↦ cond-false (ltb n (start + period)) n (start + (n - start) % period)
          (not_below n (start + period) h)
      | no h ↦
          let s : n - start < period = omega arith in
          let m : (n - start) % period ≡ n - start = mod-eq_of_lt s in
          let back : n ≡ start + (n - start) % period = omega arith in
          cond-true (ltb n (start + period)) n (start + (n - start) % period)
          (below n (start + period) (omega arith)) ∙ back
    ])

pub phi_repeats : (phi : Pretending) (n : ℕ) → phi.start ≤ n
    → phi_at phi (phi.period + n) ≡ phi_at phi n
phi_repeats phi n l =
    ap (λ v. slice_index (0 ∷ phi.entries) v) (place_repeats phi.start phi.period n l)

pub entry_in : (order : ℕ) (xs : List ℕ) (k : ℕ) → 0 < order → All (λ x. x < order) xs
    → slice_index (0 ∷ xs) k < order
entry_in order xs zero some all = some
entry_in order xs (suc k) some all = elim (dec_lt k (length xs)) [
  | yes l ↦ All-get_or (λ x. x < order) xs k 0 l all
  | no l ↦ let e : get_or xs k 0 ≡ 0 = get_or_past xs k 0 (omega arith) in omega arith
]

module _ (table : Grid) (monoid : Monoid table.order (times_in table)) (phi : Pretending)
    (into : IsInto table phi) where
  pub phi_in : (n : ℕ) → phi_at phi n < table.order
  phi_in n = entry_in table.order phi.entries (place phi.start phi.period n) monoid.some into

  pub left_in : (left : Left) → left_value table phi left < table.order
  left_in Nothing = monoid.some
  left_in (One a) = phi_in a
  left_in (Two a b) = monoid.closed (phi_at phi a) (phi_at phi b) (phi_in a) (phi_in b)
  left_in (Three a b c) =
      monoid.closed (phi_at phi a) (times_in table (phi_at phi b) (phi_at phi c)) (phi_in a)
      (monoid.closed (phi_at phi b) (phi_at phi c) (phi_in b) (phi_in c))
