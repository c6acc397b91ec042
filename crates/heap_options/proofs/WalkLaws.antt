-- What a walk has left, stage by stage.
use Rattle.std.proofs.Common.{◌≡◌, ℕ, zero, suc, ◌+◌, ◌-◌, ◌/◌, ◌<◌, ◌≤◌, if◌then◌else◌, Bool, true, false, List, [], ◌∷◌, ◌++◌, length, min, refl, ◌∙◌, ap, arith, append_assoc, map}
use Rattle.std.specs.Prelude.{◌&&◌, not, eqb, ltb, bit_and}
use Rattle.std.specs.List.{flat_map, range_with_len}
use Rattle.std.proofs.lemmas.Bool.Decides.{nat_tests}
use Rattle.std.proofs.lemmas.List.{get_or_past}
use native.Mathlib.Decide.{dec_le}
use Rattle.misere_theory.proofs.Ranges.{range_more, range_none}
use Rattle.octal_code.specs.Bits.{allows, takes_all, leaves_one}
use Rattle.octal_code.specs.declared.leaving.Leaving.TheVariants.{NoHeap, OneHeap, TwoHeaps, ThreeHeaps}
use Rattle.heap_options.specs.Options.{options_at, two_left, three_left, where_holds, splits, row, last_first, last_second, triples_at, triples}
use Rattle.heap_options.specs.Walks.{single_left, splits_from, triples_from, triples_to_try, options_from, left_at}
use Rattle.heap_options.specs.declared.left.Left.{Left}
use Rattle.heap_options.specs.declared.left.Left.TheVariants.{Nothing, One, Two, Three}
use Rattle.heap_options.specs.declared.walk.Untried.{Untried}
use Rattle.heap_options.specs.declared.walk.Untried.TheVariants.{Everything, Splits, Triples}

none_where : (b : Bool) → where_holds b [] ≡ []
none_where true = refl
none_where false = refl

-- the options that take j away are those that leave one heap at most, the splits, and the triples
two_from_one : (code : List ℕ) (n most j : ℕ) → two_left code n most j ≡ splits_from code n most j 1
two_from_one code n most j =
    let e : min ((n - j) / 2) most ≡ min ((n - j) / 2) most + 1 - 1 = omega arith in rw (← e) refl

pub single_then_splits : (code : List ℕ) (n most j : ℕ) → j < length code
    → options_from code n most j ≡ single_left code n j
    ++ (splits_from code n most j 1
    ++ (three_left code n most j ++ options_from code n most (j + 1)))
single_then_splits code n most j l =
    ap (flat_map (options_at code n most))
    (range_more j (length code - j) (length code - (j + 1)) (omega arith))
    ∙ rw (← two_from_one code n most j) (simp append_assoc)

pub none_past : (code : List ℕ) (n most j : ℕ) → length code ≤ j → options_from code n most j ≡ []
none_past code n most j l =
    ap (flat_map (options_at code n most)) (range_none j (length code - j) (omega arith))

not_both : (b c : Bool) (n j : ℕ) → (b && not (eqb j 0) && eqb n j) ≡ true
    → (c && not (eqb j 0) && ltb j n) ≡ false
not_both b c n j e = grind (arith, nat_tests)

pub single_nothing : (code : List ℕ) (n j : ℕ) → takes_all code n j ≡ true
    → single_left code n j ≡ Nothing ∷ []
single_nothing code n j e =
    let f = not_both (allows code j NoHeap) (allows code j OneHeap) n j e in rw (e, f) refl

pub single_one : (code : List ℕ) (n j : ℕ) → takes_all code n j ≡ false → leaves_one code n j ≡ true
    → single_left code n j ≡ One (n - j) ∷ []
single_one code n j e f = rw (e, f) refl

pub single_none : (code : List ℕ) (n j : ℕ) → takes_all code n j ≡ false
    → leaves_one code n j ≡ false → single_left code n j ≡ []
single_none code n j e f = rw (e, f) refl

-- no split is left
pub splits_off : (code : List ℕ) (n most j a : ℕ) → allows code j TwoHeaps ≡ false
    → splits_from code n most j a ≡ []
splits_off code n most j a e = rw e refl

pub none_at : (m a k : ℕ) → k ≡ 0 → splits m a k ≡ []
none_at m a k e = rw e

pub splits_over : (code : List ℕ) (n most j a : ℕ) → min ((n - j) / 2) most < a
    → splits_from code n most j a ≡ []
splits_over code n most j a l =
    let e : min ((n - j) / 2) most + 1 - a ≡ 0 = omega arith in
    rw e (none_where (allows code j TwoHeaps))

parts_add : (f : ℕ → Left) (a c d : ℕ) → map f (range_with_len a (c + d))
    ≡ map f (range_with_len a c) ++ map f (range_with_len (a + c) d)
parts_add f a zero d =
    let e : 0 + d ≡ d = omega arith in let g : a + 0 ≡ a = omega arith in rw (e, g) refl
parts_add f a (suc c) d =
    let e : suc c + d ≡ suc (c + d) = omega arith in
    let g : a + suc c ≡ a + 1 + c = omega arith in
    rw (e, g) (ap (λ xs. f a ∷ xs) (parts_add f (a + 1) c d))

-- some splits, and the others
pub splits_first : (code : List ℕ) (n most j a c : ℕ) → allows code j TwoHeaps ≡ true
    → a + c ≤ min ((n - j) / 2) most + 1
    → splits_from code n most j a ≡ splits (n - j) a c ++ splits_from code n most j (a + c)
splits_first code n most j a c e l =
    let h = min ((n - j) / 2) most in
    let f : h + 1 - a ≡ c + (h + 1 - (a + c)) = omega arith in
    rw (e, f) (parts_add (λ b. Two b (n - j - b)) a c (h + 1 - (a + c)))

pub single_short : (code : List ℕ) (n j : ℕ) → length (single_left code n j) ≤ 1
single_short code n j = by_tests (takes_all code n j) (leaves_one code n j) refl refl
  where
    by_tests : (a b : Bool) → takes_all code n j ≡ a → leaves_one code n j ≡ b
        → length (single_left code n j) ≤ 1
    by_tests true b e f = let l = ap length (single_nothing code n j e) in omega arith
    by_tests false true e f = let l = ap length (single_one code n j e f) in omega arith
    by_tests false false e f = let l = ap length (single_none code n j e f) in omega arith

-- the triples with the first part a, and those with a larger one
open_triples : (m most a : ℕ) → a ≤ last_first m most
    → triples m most a ≡ triples_at m most a ++ triples m most (a + 1)
open_triples m most a l =
    ap (flat_map (triples_at m most))
    (range_more a (last_first m most + 1 - a) (last_first m most + 1 - (a + 1)) (omega arith))

no_triples : (m most a : ℕ) → last_first m most < a → triples m most a ≡ []
no_triples m most a l =
    ap (flat_map (triples_at m most)) (range_none a (last_first m most + 1 - a) (omega arith))

pub no_row : (m a b k : ℕ) → k ≡ 0 → row m a b k ≡ []
no_row m a b k e = rw e

pub first_triples : (m most : ℕ) → triples m most 1
    ≡ row m 1 1 (last_second m most 1 + 1 - 1) ++ triples m most 2
first_triples m most = elim (dec_le 1 (last_first m most)) [
  | yes l ↦ open_triples m most 1 l
  | no f ↦
      let e : last_second m most 1 + 1 - 1 ≡ 0 = omega arith in
      rw (no_triples m most 1 (omega arith), no_triples m most 2 (omega arith), e) refl
]

-- all triples that take j away
pub triples_from_one : (code : List ℕ) (n most j : ℕ)
    → three_left code n most j ≡ triples_from code n most j 1 1
triples_from_one code n most j =
    ap (where_holds (allows code j ThreeHeaps)) (first_triples (n - j) most)

pub triples_off : (code : List ℕ) (n most j a b : ℕ) → allows code j ThreeHeaps ≡ false
    → triples_from code n most j a b ≡ []
triples_off code n most j a b e = rw e refl

pub three_off : (code : List ℕ) (n most j : ℕ) → allows code j ThreeHeaps ≡ false
    → three_left code n most j ≡ []
three_off code n most j e = rw e refl

pub row_add : (m a b c d : ℕ) → row m a b (c + d) ≡ row m a b c ++ row m a (b + c) d
row_add m a b c d = parts_add (λ e. Three a e (m - a - e)) b c d

-- some triples with the first part a, and the others
pub triples_first : (code : List ℕ) (n most j a b c : ℕ) → allows code j ThreeHeaps ≡ true
    → b + c ≤ last_second (n - j) most a + 1
    → triples_from code n most j a b ≡ row (n - j) a b c ++ triples_from code n most j a (b + c)
triples_first code n most j a b c e l =
    let h = last_second (n - j) most a in
    let f : h + 1 - b ≡ c + (h + 1 - (b + c)) = omega arith in
    rw (e, f) (ap (λ xs. xs ++ triples (n - j) most (a + 1)) (row_add (n - j) a b c (h + 1 - (b + c)))
    ∙ append_assoc (row (n - j) a b c) _ _)

-- where none is to try, those with a larger first part are left
row_over : (b : Bool) (m most a k : ℕ) (i : ℕ) → (if b then k else 0) ≡ 0
    → where_holds b (row m a i k ++ triples m most (a + 1))
    ≡ where_holds b (triples m most (a + 1))
row_over true m most a k i e = ap (λ xs. xs ++ triples m most (a + 1)) (no_row m a i k e)
row_over false m most a k i e = refl

pub next_row : (code : List ℕ) (n most j a b : ℕ) → triples_to_try code n most j a b ≡ 0
    → a < last_first (n - j) most
    → triples_from code n most j a b ≡ triples_from code n most j (a + 1) (a + 1)
next_row code n most j a b e l =
    row_over (allows code j ThreeHeaps) (n - j) most a (last_second (n - j) most a + 1 - b) b e
    ∙ ap (where_holds (allows code j ThreeHeaps)) (open_triples (n - j) most (a + 1) (omega arith))

pub no_row_left : (code : List ℕ) (n most j a b : ℕ) → triples_to_try code n most j a b ≡ 0
    → last_first (n - j) most ≤ a → triples_from code n most j a b ≡ []
no_row_left code n most j a b e l =
    row_over (allows code j ThreeHeaps) (n - j) most a (last_second (n - j) most a + 1 - b) b e
    ∙ ap (where_holds (allows code j ThreeHeaps)) (no_triples (n - j) most (a + 1) (omega arith))
    ∙ none_where (allows code j ThreeHeaps)

pub no_bit : (code : List ℕ) (j : ℕ) → length code ≤ j → allows code j TwoHeaps ≡ false
no_bit code j l = ap (λ d. not (eqb (bit_and d 4) 0)) (get_or_past code j 0 l)

pub no_bit_three : (code : List ℕ) (j : ℕ) → length code ≤ j → allows code j ThreeHeaps ≡ false
no_bit_three code j l = ap (λ d. not (eqb (bit_and d 8) 0)) (get_or_past code j 0 l)

-- past the last digit nothing is untried
pub none_untried : (code : List ℕ) (n most j : ℕ) (untried : Untried) → length code ≤ j
    → left_at code n most j untried ≡ []
none_untried code n most j Everything l = none_past code n most j l
none_untried code n most j (Splits a) l =
    rw (splits_off code n most j a (no_bit code j l), three_off code n most j (no_bit_three code j l))
    (none_past code n most (j + 1) (omega arith))
none_untried code n most j (Triples a b) l =
    rw (triples_off code n most j a b (no_bit_three code j l))
    (none_past code n most (j + 1) (omega arith))
