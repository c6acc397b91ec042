-- Units that are left.
-- A turn leaves fewer places to look at; and heaps, and the turns for their pairs, are few.
use Rattle.std.proofs.Common.{◌≡◌, Ok, Err, List, [], ◌∷◌, length, length-append, ◌≢◌, ◌==◌, ◌||◌, eq-eqb, ℕ, suc, zero, ◌+◌, ◌-◌, ◌*◌, ◌<◌, ◌≤◌, Bool, true, false, not, refl, arith, inl, inr, eq-zero-or-pos, if◌then◌else◌}
use Rattle.std.proofs.lemmas.Nat.{mul-le}
use Rattle.monoid_table.specs.Turns.{JobState, triples, turn, turns, is_over, triple_holds}
use Rattle.monoid_table.specs.Faults.{answer_of}
use Rattle.monoid_table.specs.declared.fault.LawFault.TheVariants.{Law}
use Rattle.misere_theory.specs.Games.{leaves_three, IsCode}
use Rattle.misere_theory.specs.Pairs.{heap_bound}
use Rattle.misere_theory.proofs.Bound.{bound_with, bound_without}
use Rattle.misere_theory.proofs.LocalRule.{true_or_false}
use Rattle.misere_theory.specs.Certificates.{Certificate, kind_of, InRanges, pairs_with, pairs_from}
use Rattle.misere_theory.proofs.Counting.{bound_whole, bound_part, kind_partial}
use Rattle.misere_theory.proofs.Written.{is_partial}
use Rattle.check_machine.specs.Bounds.{bound_of, heaps_most}
use Rattle.check_machine.specs.Units.{rest}

-- places of some rows, at least one
place : (k m j : ℕ) → 1 ≤ k → j < m → k * m - (j + 1) + 1 ≤ k * m - j
place k m j a b = let h = mul-le 1 m k m a (omega arith) in omega arith

row : (k l m j i : ℕ) → k ≡ l + 1 → j < m → l * m - i + 1 ≤ k * m - j
row k l m j i e b = let h : k * m ≡ l * m + m = (rw e (grind arith)) in omega arith

module _ (n i m j : ℕ) (row_in : i < n) (place_in : j < m) where
  -- a place more
  pub rest-place : rest n i m (j + 1) + 1 ≤ rest n i m j
  unfolding rest
  rest-place = place (n - i) m j (omega arith) place_in

  -- the last place of a row
  pub rest-row : (first : ℕ) → rest n (i + 1) m first + 1 ≤ rest n i m j
  unfolding rest
  rest-row first = row (n - i) (n - (i + 1)) m j first (omega arith) place_in

pub some-left : (r : Bool) (n m : ℕ) → (r || (n == m)) ≡ false → n ≢ m
some-left true n m e = absurd (cc)
some-left false n m e = λ d. let t = eq-eqb n m d in let b : ⊥ = cc in b

choice_grid : (b : Bool) (s t : JobState) → t.grid ≡ s.grid → (if b then s else t).grid ≡ s.grid
choice_grid true s t e = refl
choice_grid false s t e = e

pub turn-grid : (s : JobState) → (turn s).grid ≡ s.grid
turn-grid s = choice_grid (is_over s) s _ refl

-- the triples of a table, one turn and so many turns later
module _ (s : JobState) (within : s.spent ≤ triples s.grid.order) where
  abbrev pub InRange : JobState → ℕ → Type 0
  InRange t n = (s.spent ≤ t.spent) × (t.spent ≤ s.spent + n) × (t.spent ≤ triples s.grid.order)

  one-turn : (b : Bool) → is_over s ≡ b
      → InRange
      (if b then s else record {
        grid = s.grid;
        spent = s.spent + 1;
        refused = not (triple_holds s.grid.order s.grid.entries s.spent);
      }) 1
  one-turn true e = (omega arith, omega arith, within)
  one-turn false e =
      let d = some-left s.refused s.spent (triples s.grid.order) e in
      (omega arith, omega arith, omega arith)

pub turns-range : (n : ℕ) (s : JobState) → s.spent ≤ triples s.grid.order
    → (s.spent ≤ (turns n s).spent) × ((turns n s).spent ≤ s.spent + n)
    × ((turns n s).spent ≤ triples s.grid.order)
unfolding turns
turns-range zero s h = (omega arith, omega arith, h)
turns-range (suc n) s h =
    let a = one-turn s h (is_over s) refl in
    let g = turn-grid s in
    let b = turns-range n (turn s) (rw g a.2) in
    let d = rw g at b.2 in
    (omega arith, omega arith, d)

-- no triple is left where a job says so
going : (r b : Bool) → (if r then Err Law else Ok b) ≡ Ok false → (r || b) ≡ false
going true b e = absurd (cc)
going false b e = cc

pub not-over : (s : JobState) → answer_of s ≡ Ok false → is_over s ≡ false
not-over s e = going s.refused (s.spent == triples s.grid.order) e

with_length : (x y n : ℕ) → length (pairs_with x y n) ≡ n
with_length x y zero = refl
with_length x y (suc n) = let h = with_length x (y + 1) n in omega arith

-- there are two elements at least, so there is a pair
some_from : (x n : ℕ) → 2 ≤ n → 0 < length (pairs_from x n)
some_from x zero l = absurd (omega arith)
some_from x (suc n) l =
    let a = length-append (pairs_with x (x + 1) n) (pairs_from (x + 1) n) in
    let b = with_length x (x + 1) n in
    omega arith

pub some_pairs : (c : Certificate) → InRanges c → 0 < length c.apart
some_pairs c r = let h = some_from 0 c.order r.order.0 in let e = r.apart.0 in omega arith

pub code_short : (code : List ℕ) → IsCode code → length code ≤ 17
code_short [] h = absurd h
code_short (d ∷ ds) h = let l = h.2 in omega arith

heap_bound_range : (code : List ℕ) (k start period : ℕ)
    → (start ≤ heap_bound code k start period)
    × (heap_bound code k start period ≤ 3 * (start + period) + k)
heap_bound_range code k start period = elim (true_or_false (leaves_three code)) [
  | inl e ↦ let b = bound_with code k start period e in (omega arith, omega arith)
  | inr e ↦ let b = bound_without code k start period e in (omega arith, omega arith)
]

bound_range : (c : Certificate) → InRanges c → (1 ≤ bound_of c)
    × (bound_of c ≤ 3 * (c.start + c.period) + (length c.code - 1))
bound_range c r = elim (eq-zero-or-pos (kind_of c)) [
  | inl z ↦
      let e = bound_whole (kind_of c) c.code (length c.code - 1) c.start c.period z in
      let s = r.start in
      let w = heap_bound_range c.code (length c.code - 1) c.start c.period in
      (let l = w.0 in omega arith, let l = w.1 in omega arith)
  | inr some ↦
      let e = bound_part (kind_of c) c.code (length c.code - 1) c.start c.period some in
      let k = kind_partial c.start c.period (is_partial c r some) in
      (omega arith, omega arith)
]

-- some heap is looked at
pub bound_some : (c : Certificate) → InRanges c → 1 ≤ bound_of c
bound_some c r = (bound_range c r).0

pub bound_few : (c : Certificate) → InRanges c → bound_of c ≤ 12307
bound_few c r = let l = code_short c.code r.code in let s = r.period.1 in
    let b = (bound_range c r).1 in omega arith

cube_few : (k b : ℕ) → k ≤ 17 → b ≤ 12307 → k * (b * (b * b)) ≤ 31688780273531
cube_few k b l m =
    let b2 = mul-le b b 12307 12307 m m in
    let b3 = mul-le b (b * b) 12307 151462249 m (omega arith) in
    let k3 = mul-le k (b * (b * b)) 17 1864045898443 l (omega arith) in
    omega arith

square_few : (k b : ℕ) → k ≤ 17 → b ≤ 12307 → k * (b * b) ≤ 31688780273531
square_few k b l m =
    let b2 = mul-le b b 12307 12307 m m in
    let k2 = mul-le k (b * b) 17 151462249 l (omega arith) in
    omega arith

either_few : (three : Bool) (k b : ℕ) → k ≤ 17 → b ≤ 12307
    → (if three then k * (b * (b * b)) else k * (b * b)) ≤ 31688780273531
either_few true k b l m = cube_few k b l m
either_few false k b l m = square_few k b l m

-- the pairs of the heaps take few turns
pub heaps_few : (c : Certificate) → InRanges c → heaps_most c ≤ 31688780273531
heaps_few c r =
    either_few (leaves_three c.code) (length c.code) (bound_of c) (code_short c.code r.code)
    (bound_few c r)
