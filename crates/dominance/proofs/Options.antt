-- An option is told by the number and the sum of its heaps, in any order: so a period may be put on one of them,
-- and taken off.
use Rattle.std.proofs.Common.{◌≡◌, ℕ, ◌+◌, ◌*◌, ◌<◌, ◌≤◌, List, [], ◌∷◌, length, refl, ◌∙◌, ap, subst, arith, IsBitSet}
use Rattle.std.specs.List.{AllByRecursion}
use Rattle.std.proofs.lemmas.Bool.Decides.{nat_tests}
use native.Mathlib.Decide.{dec_lt, dec_le}
use native.Mathlib.Nat.{mul-le-mul_right}
use Rattle.misere_theory.specs.Games.{digit, HeapOption}
use Rattle.misere_theory.specs.Games.HeapOption.{Nothing, One, Two, Three}
use Rattle.misere_theory.proofs.Codes.{no_bit_of_zero}
use Rattle.misere_theory.proofs.Shuffles.{Shuffled}
use Rattle.misere_theory.proofs.Shuffles.Shuffled.{Same, Under, Flip, Then}
use Rattle.dominance.specs.Finite.{heaps_from}

abbrev pub together : List ℕ → ℕ
together [] = 0
together (x ∷ X) = x + together X

abbrev AreSome : List ℕ → Type 0
AreSome X = AllByRecursion (λ x. 1 ≤ x) X

-- what an option of a heap is, by its parts
record IsLeft (code : List ℕ) (n : ℕ) (H : List ℕ) : Type 0 where
  taken : ℕ
  sums : n ≡ taken + together H
  are_some : AreSome H
  moved : (length H ≤ 1) → 1 ≤ taken
  three : length H ≤ 3
  allowed : IsBitSet (digit code taken) (length H)

is_left : {code : List ℕ} {n : ℕ} {H : List ℕ} → HeapOption code n H → IsLeft code n H
is_left (Nothing j p e b) = record {
  taken = j;
  sums = omega arith;
  are_some = tt;
  moved = λ _. p;
  three = omega arith;
  allowed = b;
}
is_left (One j a p q e b) = record {
  taken = j;
  sums = omega arith;
  are_some = (q, tt);
  moved = λ _. p;
  three = omega arith;
  allowed = b;
}
is_left (Two j a b p q e s) = record {
  taken = j;
  sums = omega arith;
  are_some = (p, (q, tt));
  moved = λ l. absurd (omega arith);
  three = omega arith;
  allowed = s;
}
is_left (Three j a b c p q r e s) = record {
  taken = j;
  sums = omega arith;
  are_some = (p, (q, (r, tt)));
  moved = λ l. absurd (omega arith);
  three = omega arith;
  allowed = s;
}

option_left : (code : List ℕ) (n : ℕ) (H : List ℕ) → IsLeft code n H → HeapOption code n H
option_left code n [] l =
    Nothing l.taken (l.moved (omega arith)) (let s = l.sums in omega arith) l.allowed
option_left code n (a ∷ []) l =
    One l.taken a (l.moved (omega arith)) l.are_some.0 (let s = l.sums in omega arith) l.allowed
option_left code n (a ∷ b ∷ []) l =
    Two l.taken a b l.are_some.0 l.are_some.1.0 (let s = l.sums in omega arith) l.allowed
option_left code n (a ∷ b ∷ c ∷ []) l =
    Three l.taken a b c l.are_some.0 l.are_some.1.0 l.are_some.1.1.0 (let s = l.sums in omega arith)
    l.allowed
option_left code n (a ∷ b ∷ c ∷ d ∷ H) l = let t = l.three in absurd (omega arith)

together_shuffled : {H L : List ℕ} → Shuffled H L → together H ≡ together L
together_shuffled Same = refl
together_shuffled (Under s) = omega (arith, together_shuffled s)
together_shuffled Flip = omega arith
together_shuffled (Then s t) = together_shuffled s ∙ together_shuffled t

length_shuffled : {H L : List ℕ} → Shuffled H L → length H ≡ length L
length_shuffled Same = refl
length_shuffled (Under s) = omega (arith, length_shuffled s)
length_shuffled Flip = omega arith
length_shuffled (Then s t) = length_shuffled s ∙ length_shuffled t

some_shuffled : {H L : List ℕ} → Shuffled H L → AreSome H → AreSome L
some_shuffled Same p = p
some_shuffled (Under s) p = (p.0, some_shuffled s p.1)
some_shuffled Flip p = (p.1.0, (p.0, p.1.1))
some_shuffled (Then s t) p = some_shuffled t (some_shuffled s p)

pub heaps_from_shuffled : (start : ℕ) {H L : List ℕ} → Shuffled H L
    → heaps_from start H ≡ heaps_from start L
heaps_from_shuffled start Same = refl
heaps_from_shuffled start (Under {n = n} s) = omega (arith, heaps_from_shuffled start s)
heaps_from_shuffled start (Flip {a = a} {b = b}) = omega arith
heaps_from_shuffled start (Then s t) = heaps_from_shuffled start s ∙ heaps_from_shuffled start t

pub option_shuffled : {code : List ℕ} {n : ℕ} {H L : List ℕ} → Shuffled H L → HeapOption code n H
    → HeapOption code n L
option_shuffled {code = code} {n = n} {H = H} {L = L} s o =
    let l = is_left o in
    let e = length_shuffled s in
    option_left code n L (record {
      taken = l.taken;
      sums = l.sums ∙ ap (λ t. l.taken + t) (together_shuffled s);
      are_some = some_shuffled s l.are_some;
      moved = λ low. l.moved (omega arith);
      three = let t = l.three in omega arith;
      allowed = subst (λ b. IsBitSet (digit code l.taken) b) e l.allowed;
    })

module _ (code : List ℕ) (p n x : ℕ) (R : List ℕ) where
  -- a period on one of the heaps that are left
  pub option_raised : HeapOption code n (x ∷ R) → HeapOption code (p + n) ((p + x) ∷ R)
  option_raised o =
      let l = is_left o in
      let s = l.sums in
      let a = l.are_some.0 in
      option_left code (p + n) ((p + x) ∷ R) (record {
        taken = l.taken;
        sums = omega arith;
        are_some = (omega arith, l.are_some.1);
        moved = l.moved;
        three = l.three;
        allowed = l.allowed;
      })

  pub option_lowered : 1 ≤ x → HeapOption code (p + n) ((p + x) ∷ R) → HeapOption code n (x ∷ R)
  option_lowered some o =
      let l = is_left o in
      let s = l.sums in
      option_left code n (x ∷ R) (record {
        taken = l.taken;
        sums = omega arith;
        are_some = (some, l.are_some.1);
        moved = l.moved;
        three = l.three;
        allowed = l.allowed;
      })

-- a largest heap, and the others
pub largest : (m : ℕ) (X : List ℕ) → (z : ℕ) × (S : List ℕ) × Shuffled (m ∷ X) (z ∷ S)
    × AllByRecursion (λ x. x ≤ z) S
largest m [] = (m, [], Same, tt)
largest m (a ∷ X) = let (z, S, s, all) = largest a X in elim (dec_le m z) [
  | yes l ↦ (z, m ∷ S, Then (Under s) Flip, (l, all))
  | no f ↦ (m, z ∷ S, Under s, (omega arith, lower m z S (omega arith) all))
]
  where
    lower : (m z : ℕ) (S : List ℕ) → z ≤ m → AllByRecursion (λ x. x ≤ z) S
        → AllByRecursion (λ x. x ≤ m) S
    lower m z [] l all = tt
    lower m z (x ∷ S) l all = (let h = all.0 in omega arith, lower m z S l all.1)

pub times_two : (n b : ℕ) → n ≤ 2 → n * b ≤ 2 * b
times_two n b l = mul-le-mul_right b l

sum_at_most : (b : ℕ) (S : List ℕ) → AllByRecursion (λ x. x ≤ b) S → together S ≤ length S * b
sum_at_most b [] all = omega arith
sum_at_most b (x ∷ S) all = let i = sum_at_most b S all.1 in let h = all.0 in omega arith

small_sum : (start : ℕ) (S : List ℕ) → heaps_from start S ≡ 0 → together S ≤ length S * start
small_sum start [] e = omega arith
small_sum start (x ∷ S) e =
    let i = small_sum start S (omega arith) in
    let h : x < start = grind (arith, nat_tests) in
    omega arith

-- how large the largest heap is, and how large if no other is from start on
module _ (code : List ℕ) (digits : ℕ) (past : (j : ℕ) → digits < j → digit code j ≡ 0) where
  taken_at_most : {n : ℕ} {H : List ℕ} → IsLeft code n H → n ≤ digits + together H
  taken_at_most {n = n} {H = H} l = let s = l.sums in elim (dec_lt digits l.taken) [
    | yes m ↦ absurd (no_bit_of_zero (digit code l.taken) (length H) (past l.taken m) l.allowed)
    | no f ↦ omega arith
  ]

  pub none_left : (n : ℕ) → HeapOption code n [] → n ≤ digits
  none_left n o = let l = taken_at_most (is_left o) in omega arith

  pub largest_at_least : (n z : ℕ) (S : List ℕ) → HeapOption code n (z ∷ S)
      → AllByRecursion (λ x. x ≤ z) S → n ≤ digits + 3 * z
  largest_at_least n z S o all =
      let l = taken_at_most (is_left o) in
      let t = (is_left o).three in
      let u = sum_at_most z S all in
      let v = times_two (length S) z (omega arith) in
      omega arith

  pub alone_at_least : (n z start : ℕ) (S : List ℕ) → HeapOption code n (z ∷ S)
      → heaps_from start S ≡ 0 → (n ≤ digits + z + 2 * start) × (length S ≤ 2)
  alone_at_least n z start S o none =
      let l = taken_at_most (is_left o) in
      let t = (is_left o).three in
      let u = small_sum start S none in
      let v = times_two (length S) start (omega arith) in
      (omega arith, omega arith)
