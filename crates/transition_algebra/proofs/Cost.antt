-- How many turns all pairs take.
-- Each turn lessens by one what is left. The options of a heap are counted digit by digit.
use Rattle.std.proofs.Common.{◌≡◌, ℕ, zero, suc, ◌+◌, ◌-◌, ◌*◌, ◌/◌, ◌^◌, ◌<◌, ◌≤◌, ◌↔◌, Bool, true, false, List, [], ◌∷◌, ◌++◌, length, min, ◌&&◌, not, eqb, ltb, ne_eqb, le-ltb, refl, sym, subst, inl, inr, ap, arith}
use Rattle.std.specs.Prelude.{if◌then◌else◌}
use Rattle.std.specs.List.{sum_by, range_with_len}
use Rattle.std.proofs.lemmas.List.{length-append}
use Rattle.std.proofs.lemmas.List.Concat.{length-flat_map}
use Rattle.std.proofs.lemmas.List.FromFn.{length-map-range_with_len}
use Rattle.std.proofs.Math.Nat.{mul-le-mul, mul-le-mul_left}
use native.Mathlib.Decide.{dec_le, dec_lt}
use Rattle.misere_theory.specs.Games.{IsCode, leaves_three}
use Rattle.misere_theory.proofs.Codes.{no_three}
use Rattle.misere_theory.proofs.Ranges.{sum_more, sum_none, sum_at_most, sum_at_least}
use Rattle.misere_theory.proofs.LocalRule.{true_or_false}
use Rattle.monoid_table.specs.Grids.{Grid}
use Rattle.octal_code.proofs.BitLaws.{allowed}
use Rattle.heap_options.proofs.WalkLaws.{three_off}
use Rattle.octal_code.specs.Bits.{allows, takes_all, leaves_one}
use Rattle.octal_code.specs.declared.leaving.Leaving.TheVariants.{NoHeap, OneHeap, TwoHeaps, ThreeHeaps}
use Rattle.heap_options.specs.Options.{options_at, nothing_left, one_left, two_left, three_left, where_holds, splits, last_first, last_second, triples_at, triples}
use Rattle.heap_options.specs.declared.left.Left.{Left}
use Rattle.heap_options.specs.declared.left.Left.TheVariants.{Nothing, One, Two, Three}
use Rattle.monoid_table.specs.Pretending.{Pretending, IsPretending}
use Rattle.transition_algebra.specs.Heaps.{bound_of, largest_part}
use Rattle.transition_algebra.specs.Work.{Trying, tries, opening, tried, turn, turns, heap_cost, most_turns}
use Rattle.transition_algebra.specs.OverSets.{Pair}
use Rattle.transition_algebra.proofs.Counted.{bound_small}
use Rattle.transition_algebra.proofs.Turning.{cost_of, left, left_some, left_going, left_over, turn_going, turn_over}

-- a turn for each heap at least
pub cost_long : (code : List ℕ) (phi : Pretending) → bound_of code phi ≤ heap_cost code phi
unfolding heap_cost
cost_long code phi = sum_at_least (cost_of code phi) 1 (bound_of code phi) (λ n. omega arith)

module _ (code : List ℕ) (table : Grid) (phi : Pretending) where
  left_tried : (n : ℕ) (seen : _) (pairs : List Pair) (coming : List Left) → n ≤ bound_of code phi
      → left code phi (tried code table phi n seen pairs coming) + 1
      ≡ length coming + 1 + sum_by (cost_of code phi)
      (range_with_len (n + 1) (bound_of code phi - n))
  left_tried n seen pairs (x ∷ xs) l =
      let e = left_going code table phi (tried code table phi n seen pairs (x ∷ xs)) l in
      omega arith
  left_tried n seen pairs [] l =
      let B = bound_of code phi in
      let next = tried code table phi n seen pairs [] in
      elim (dec_le (n + 1) B) [
        | yes h ↦
            let e = left_going code table phi next h in
            let s = sum_more (cost_of code phi) (n + 1) (B - n) (B - (n + 1)) (omega arith) in
            omega arith
        | no h ↦
            let e = left_over code table phi next (omega arith) in
            let s = sum_none (cost_of code phi) (n + 1) (B - n) (omega arith) in
            omega arith
      ]

  left_turn : (s : Trying) → left code phi (turn code table phi s) ≡ left code phi s - 1
  left_turn s = elim (dec_le s.heap (bound_of code phi)) [
    | yes h ↦
        let e = left_tried s.heap s.seen s.pairs s.coming h in
        let g = left_going code table phi s h in
        let t = ap (left code phi) (turn_going code table phi s h) in
        omega arith
    | no h ↦
        let l : bound_of code phi < s.heap = omega arith in
        let e = ap (left code phi) (turn_over code table phi s l) in
        let g = left_over code table phi s l in
        omega arith
  ]

  left_turns : (n : ℕ) (s : Trying) → left code phi (turns code table phi n s) ≡ left code phi s - n
  unfolding turns
  left_turns zero s = omega arith
  left_turns (suc n) s = let e = left_turns n (turn code table phi s) in let f = left_turn s in
      omega arith

  -- each turn from the start is one less
  pub left_after : (n : ℕ) → left code phi (turns code table phi n (opening code phi))
      ≡ heap_cost code phi - n
  unfolding heap_cost
  left_after n =
      let B = bound_of code phi in
      let e = left_turns n (opening code phi) in
      elim (dec_le 1 B) [
        | yes h ↦
            let g = left_going code table phi (opening code phi) h in
            let s = sum_more (cost_of code phi) 1 B (B - 1) (omega arith) in
            omega arith
        | no h ↦
            let g = left_over code table phi (opening code phi) (omega arith) in
            let s = sum_none (cost_of code phi) 1 B (omega arith) in
            omega arith
      ]

-- after so many turns no heap is left, and not before
pub cost_turned : (code : List ℕ) (table : Grid) (phi : Pretending) (n : ℕ)
    → (bound_of code phi < (turns code table phi n (opening code phi)).heap)
    ↔ (heap_cost code phi ≤ n)
cost_turned code table phi n =
    let s = turns code table phi n (opening code phi) in
    let e = left_after code table phi n in (
      λ l. let o = left_over code table phi s l in omega arith,
      λ l. elim (dec_le s.heap (bound_of code phi)) [
        | yes h ↦ absurd (let o = left_some code table phi s h in omega arith)
        | no h ↦ omega arith
      ],
    )

where_short : (b : Bool) (xs : List Left) → length (where_holds b xs) ≤ length xs
where_short true xs = omega arith
where_short false xs = omega arith

where_none : (b : Bool) (xs : List Left) → b ≡ false → length (where_holds b xs) ≡ 0
where_none true xs e = absurd cc
where_none false xs e = refl

false_and : (a b d : Bool) → b ≡ false → (a && b && d) ≡ false
false_and true true d e = absurd cc
false_and true false d e = refl
false_and false b d e = refl

and_and_false : (a b d : Bool) → d ≡ false → (a && b && d) ≡ false
and_and_false true true d e = e
and_and_false true false d e = refl
and_and_false false b d e = refl

splits_short : (code : List ℕ) (n most j : ℕ) → length (two_left code n most j) ≤ (n - j) / 2
splits_short code n most j =
    let c = where_short (allows code j TwoHeaps) (splits (n - j) 1 (min ((n - j) / 2) most)) in
    let d = length-map-range_with_len (λ x. Two x (n - j - x)) 1 (min ((n - j) / 2) most) in
    omega arith

triples_short : (n m most : ℕ) → m ≤ n → length (triples m most 1) ≤ n / 3 * (n / 2)
triples_short n m most l =
    let rows = last_first m most + 1 - 1 in
    let e = length-flat_map (triples_at m most) (range_with_len 1 rows) in
    let s = sum_at_most (λ a. length (triples_at m most a)) (n / 2) 1 rows
    (λ a p q. let d = length-map-range_with_len (λ c. Three a c (m - a - c)) a
    (last_second m most a + 1 - a) in omega arith) in
    let f : rows ≤ n / 3 = omega arith in
    let g : rows * (n / 2) ≤ n / 3 * (n / 2) = grind arith in
    omega arith

no_triples_at : (code : List ℕ) (n most j : ℕ) → leaves_three code ≡ false
    → length (three_left code n most j) ≡ 0
no_triples_at code n most j e = ap length (three_off code n most j (off (allows code j ThreeHeaps) refl))
  where
    off : (b : Bool) → allows code j ThreeHeaps ≡ b → allows code j ThreeHeaps ≡ false
    off true h = absurd (no_three code j e ((allowed code j ThreeHeaps).0 h))
    off false h = h

triples_at_most : (code : List ℕ) (n most j : ℕ)
    → length (three_left code n most j) ≤ n / 3 * (n / 2)
triples_at_most code n most j =
    let a = where_short (allows code j ThreeHeaps) (triples (n - j) most 1) in
    let b = triples_short n (n - j) most (omega arith) in
    omega arith

parts_of_options : (code : List ℕ) (n most j : ℕ) → length (options_at code n most j)
    ≡ length (nothing_left code n j) + (length (one_left code n j)
    + (length (two_left code n most j) + length (three_left code n most j)))
parts_of_options code n most j =
    let many = two_left code n most j ++ three_left code n most j in
    let e = length-append (nothing_left code n j) (one_left code n j ++ many) in
    let f = length-append (one_left code n j) many in
    let g = length-append (two_left code n most j) (three_left code n most j) in
    omega arith

-- where nothing is taken away only splits and triples are options
first_options_short : (code : List ℕ) (n most : ℕ) → length (options_at code n most 0)
    ≤ n / 2 + length (three_left code n most 0)
first_options_short code n most =
    let e = parts_of_options code n most 0 in
    let a = where_none (takes_all code n 0) (Nothing ∷ []) (false_and (allows code 0 NoHeap) false (eqb n 0) refl) in
    let b = where_none (leaves_one code n 0) (One (n - 0) ∷ [])
    (false_and (allows code 0 OneHeap) false (ltb 0 n) refl) in
    let c = splits_short code n most 0 in
    omega arith

-- else nothing or one heap may be left, and not both, beside the splits and the triples
options_at_short : (code : List ℕ) (n most j : ℕ) → 1 ≤ j
    → length (options_at code n most j) ≤ 1 + (n - 1) / 2 + length (three_left code n most j)
options_at_short code n most j some =
    let e = parts_of_options code n most j in
    let c = splits_short code n most j in
    elim (dec_lt j n) [
      | yes l ↦
          let a = where_none (takes_all code n j) (Nothing ∷ [])
          (and_and_false (allows code j NoHeap) (not (eqb j 0)) (eqb n j) (ne_eqb n j (λ g. omega arith)))
          in
          let b = where_short (leaves_one code n j) (One (n - j) ∷ []) in
          omega arith
      | no f ↦
          let a = where_short (takes_all code n j) (Nothing ∷ []) in
          let b = where_none (leaves_one code n j) (One (n - j) ∷ [])
          (and_and_false (allows code j OneHeap) (not (eqb j 0)) (ltb j n) (le-ltb j n (omega arith)))
          in
          omega arith
    ]

-- how many options are tried, where each taking away has so many triples at most
tries_by : (code : List ℕ) (phi : Pretending) (n k t : ℕ) → length code ≡ suc k
    → ((j : ℕ) → length (three_left code n (largest_part phi) j) ≤ t)
    → length (tries code phi n) ≤ n / 2 + t + k * (1 + (n - 1) / 2 + t)
tries_by code phi n k t long few =
    let most = largest_part phi in
    let e = length-flat_map (options_at code n most) (range_with_len 0 (length code)) in
    let f = sum_more (λ j. length (options_at code n most j)) 0 (length code) k long in
    let a = first_options_short code n most in
    let b = few 0 in
    let s = sum_at_most (λ j. length (options_at code n most j)) (1 + (n - 1) / 2 + t) 1 k
    (λ j p q. let d = options_at_short code n most j p in let g = few j in omega arith) in
    omega arith

tries_short : (code : List ℕ) (phi : Pretending) (n k : ℕ) → length code ≡ suc k
    → leaves_three code ≡ false → length (tries code phi n) ≤ n / 2 + 0 + k * (1 + (n - 1) / 2 + 0)
tries_short code phi n k long none =
    tries_by code phi n k 0 long
    (λ j. let e = no_triples_at code n (largest_part phi) j none in omega arith)

tries_at_most : (code : List ℕ) (phi : Pretending) (n k : ℕ) → length code ≡ suc k
    → length (tries code phi n)
    ≤ n / 2 + n / 3 * (n / 2) + k * (1 + (n - 1) / 2 + n / 3 * (n / 2))
tries_at_most code phi n k long =
    tries_by code phi n k (n / 3 * (n / 2)) long (triples_at_most code n (largest_part phi))

-- one digit's options and one turn more, k + 1 times
one_heap : (k x y t R : ℕ) → x + t + 1 ≤ R → y + t ≤ R → x + t + k * (y + t) + 1 ≤ suc k * R
one_heap k x y t R h l =
    let d = mul-le-mul_left k l in
    let e : suc k * R ≡ k * R + R = grind arith in
    omega arith

square_room : (t h n B : ℕ) → t + 1 ≤ n → h + 1 ≤ n → n ≤ B → h + t * h + 1 ≤ B * B
square_room t h n B p q l =
    let a : suc t * h ≤ n * h = grind arith in
    let b : n * suc h ≤ n * n = grind arith in
    let c : n * n ≤ B * B = grind arith in
    let d : suc t * h ≡ h + t * h = grind arith in
    let e : n * suc h ≡ n * h + n = grind arith in
    omega arith

-- at most (k + 1) B² turns, where no digit has bit 8
cost_of_two : (code : List ℕ) (phi : Pretending) → leaves_three code ≡ false → 2 ≤ length code
    → heap_cost code phi ≤ length code * (bound_of code phi * bound_of code phi)
unfolding heap_cost
cost_of_two code phi none some =
    let B = bound_of code phi in
    let k = length code - 1 in
    let long : length code ≡ suc k = omega arith in
    let s = sum_at_most (cost_of code phi) (length code * B) 1 B (λ n p q.
    let t = tries_short code phi n k long none in
    let h = one_heap k (n / 2) (1 + (n - 1) / 2) 0 B (omega arith) (omega arith) in
    let e : length code * B ≡ suc k * B = ap (λ v. v * B) long in
    omega arith) in
    let e : B * (length code * B) ≡ length code * (B * B) = grind arith in
    omega arith

-- at most (k + 1) B³ turns
cost_of_three : (code : List ℕ) (phi : Pretending) → 2 ≤ length code
    → heap_cost code phi
    ≤ length code * (bound_of code phi * (bound_of code phi * bound_of code phi))
unfolding heap_cost
cost_of_three code phi some =
    let B = bound_of code phi in
    let k = length code - 1 in
    let long : length code ≡ suc k = omega arith in
    let s = sum_at_most (cost_of code phi) (length code * (B * B)) 1 B (λ n p q.
    let t = tries_at_most code phi n k long in
    let r = square_room (n / 3) (n / 2) n B (omega arith) (omega arith) (omega arith) in
    let h = one_heap k (n / 2) (1 + (n - 1) / 2) (n / 3 * (n / 2)) (B * B) (omega arith)
    (omega arith) in
    let e : length code * (B * B) ≡ suc k * (B * B) = ap (λ v. v * (B * B)) long in
    omega arith) in
    let e : B * (length code * (B * B)) ≡ length code * (B * (B * B)) = grind arith in
    omega arith

pub cost_short : (code : List ℕ) (phi : Pretending) → 2 ≤ length code
    → heap_cost code phi ≤ most_turns code phi
cost_short code phi some = elim (true_or_false (leaves_three code)) [
  | inl e ↦ by_code true e (cost_of_three code phi some)
  | inr e ↦ by_code false e (cost_of_two code phi e some)
]
  where
    by_code : (b : Bool) → leaves_three code ≡ b
        → heap_cost code phi
        ≤ (if b then length code * (bound_of code phi * (bound_of code phi * bound_of code phi))
        else length code * (bound_of code phi * bound_of code phi))
        → heap_cost code phi ≤ most_turns code phi
    by_code b e h =
        subst (λ v. heap_cost code phi
        ≤ (if v then length code * (bound_of code phi * (bound_of code phi * bound_of code phi))
        else length code * (bound_of code phi * bound_of code phi))) (sym e) h

pub two_digits : (code : List ℕ) → IsCode code → (2 ≤ length code) × (length code ≤ 17)
two_digits [] h = absurd h
two_digits (d ∷ ds) h = let a = h.1 in let b = h.2 in (omega arith, omega arith)

-- so few that they can be counted
pub cost_small : (code : List ℕ) (phi : Pretending) → IsCode code → IsPretending phi
    → heap_cost code phi < 2 ^ 45
cost_small code phi octal pretending =
    let k = two_digits code octal in
    let B = bound_of code phi in
    let b = bound_small phi pretending code k.1 in
    let r = cost_of_three code phi k.0 in
    let m = mul-le-mul k.1 (mul-le-mul b (mul-le-mul b b)) in
    omega arith
