-- Going over the ones of a lane, and over the lanes.
use Rattle.std.proofs.Common.{◌≡◌, ◌≢◌, ◌⊎◌, ℕ, zero, suc, ◌+◌, ◌-◌, ◌*◌, ◌≤◌, ◌/◌, ◌%◌, ◌^◌, ◌<◌, Bool, true, eqb, List, [], ◌∷◌, length, map, bit_and, refl, sym, subst, ap, ◌∙◌, inl, inr, arith, w64}
use Rattle.std.specs.Prelude.{◌↔◌, ◌||◌, ◌==◌, IsTrue, slice_index}
use Rattle.std.specs.List.{list_any}
use Rattle.std.specs.Int.{bit_at, trailing_zeros}
use Rattle.std.specs.Ordering.{nat_cmp, eq_by_cmp}
use Rattle.std.specs.Cmp.{both_ways, nat_cmp_total, unsigned_tied}
use Rattle.std.specs.FinSet as fin
use Rattle.std.specs.FinSet.{contains-from_list_nat, nat_cmp-IsAntisymmetric, contains-insert, contains-empty, contains-items, same_set}
use Rattle.std.proofs.lemmas.Bool.{cases_lt, cases_eq, eqb-true, eq-eqb, or_cases as either, or_left, or_right, true≢false, false≢true}
use Rattle.std.proofs.lemmas.Nat.{and_le_r}
use Rattle.std.proofs.lemmas.Nat.Bits.{bit_at-trailing_zeros, bit_at_and, bit_at_lowest, bit_at-suc, bit_at-zero}
use Rattle.element_sets.specs.Lanes.{has, set_of}
use Rattle.element_sets.specs.LaneLaws.{contains-set_of, has_past}
use Rattle.element_sets.specs.Hits.{Hits, CanTranslateLane}
use Rattle.element_sets.specs.Translation.{translated, CanTranslate}

-- q is a member of all, or stands at a one of the lane
abbrev pub Has : fin.FinSet nat_cmp → ℕ → ℕ → List ℕ → ℕ → Type 0
Has all lane base row q = IsTrue (fin.contains all q) ⊎ Hits lane base row q

-- q stands in the row at a member below 64 * i
abbrev pub IsImageBelow : List ℕ → ℕ → List ℕ → ℕ → Type 0
IsImageBelow lanes i row q = (x : ℕ) × (x < 64 * i) × (has lanes x ≡ true) × (slice_index row x ≡ q)

-- the lane without its lowest one
abbrev pub without_lowest : ℕ → ℕ
without_lowest n = bit_and n (n - 1)

-- below a number's lowest one the number before it has ones, there it has none, and above it they
-- agree
before : (k n : ℕ) → bit_at n k ≡ 1 → ((i : ℕ) → i < k → bit_at n i ≡ 0) → (j : ℕ)
    → (j ≡ k → bit_at (n - 1) j ≡ 0) × (j ≢ k → bit_at n j ≤ bit_at (n - 1) j)
before zero n one low zero =
    let odd = sym (bit_at_lowest n) ∙ one in
    let e = bit_at_lowest (n - 1) in
    (λ _. omega arith, λ other. absurd (other refl))
before zero n one low (suc j) =
    let odd = sym (bit_at_lowest n) ∙ one in
    let half : (n - 1) / 2 ≡ n / 2 = omega arith in
    let same : bit_at (n - 1) (suc j) ≡ bit_at n (suc j) =
    bit_at-suc (n - 1) j ∙ ap (λ m. bit_at m j) half ∙ sym (bit_at-suc n j) in
    (λ e. absurd (omega arith), λ _. omega arith)
before (suc k) n one low zero =
    let none = low 0 (omega arith) in
    (λ e. absurd (omega arith), λ _. omega arith)
before (suc k) n one low (suc j) =
    let even = sym (bit_at_lowest n) ∙ low 0 (omega arith) in
    let up = sym (bit_at-suc n k) ∙ one in
    let some : 0 < n / 2 = above (n / 2) up in
    let half : (n - 1) / 2 ≡ n / 2 - 1 = omega arith in
    let there : bit_at (n - 1) (suc j) ≡ bit_at (n / 2 - 1) j =
    bit_at-suc (n - 1) j ∙ ap (λ m. bit_at m j) half in
    let here = bit_at-suc n j in
    let rest = before k (n / 2) up (λ i l. sym (bit_at-suc n i) ∙ low (suc i) (omega arith)) j in (
      λ e. there ∙ rest.0 (omega arith),
      λ other. let le = rest.1 (λ e. other (ap suc e)) in
          omega arith,
    )
  where
    above : (m : ℕ) → bit_at m k ≡ 1 → 0 < m
    above zero e = absurd (let z = sym (bit_at-zero k) ∙ e in omega arith)
    above (suc m) e = omega arith

lowest_gone : (n : ℕ) → 0 < n → n < 2 ^ 64 → bit_at (without_lowest n) (trailing_zeros w64 n) ≡ 0
lowest_gone n some fits =
    let t = bit_at-trailing_zeros w64 n some fits in
    let e = bit_at_and n (n - 1) (trailing_zeros w64 n) in
    let z = (before (trailing_zeros w64 n) n t.1 t.2 (trailing_zeros w64 n)).0 refl in
    omega arith

others_stay : (n j : ℕ) → 0 < n → n < 2 ^ 64 → j ≢ trailing_zeros w64 n
    → bit_at (without_lowest n) j ≡ bit_at n j
others_stay n j some fits other =
    let t = bit_at-trailing_zeros w64 n some fits in
    let e = bit_at_and n (n - 1) j in
    let z = (before (trailing_zeros w64 n) n t.1 t.2 j).1 other in
    omega arith

kept_one : (n j : ℕ) → 0 < n → n < 2 ^ 64 → bit_at (without_lowest n) j ≡ 1
    → (j ≢ trailing_zeros w64 n) × (bit_at n j ≡ 1)
kept_one n j some fits one =
    let gone = lowest_gone n some fits in
    let other : j ≢ trailing_zeros w64 n =
    λ e. let same = ap (bit_at (without_lowest n)) e in omega arith in
    (other, sym (others_stay n j some fits other) ∙ one)

pub falls : (n : ℕ) → 0 < n → without_lowest n < n
falls n some = let low = and_le_r n (n - 1) in omega arith

pub can_still : (most n base : ℕ) (row : List ℕ) → 0 < n → n < 2 ^ 64 → CanTranslateLane most n base row
    → CanTranslateLane most (without_lowest n) base row
can_still most n base row some fits can j lt one = can j lt (kept_one n j some fits one).1

contains_more : (s : fin.FinSet nat_cmp) (x q : ℕ)
    → fin.contains (fin.insert s x) q ≡ (eqb q x || fin.contains s q)
contains_more s x q =
    contains-insert nat_cmp_total s x q ∙ ap (λ b. b || fin.contains s q) (unsigned_tied q x)

or_cases : (q x : ℕ) (b : Bool) → (eqb q x || b) ≡ true → (q ≡ x) ⊎ (b ≡ true)
or_cases q x b e =
    elim (either _ _ e) [ inl same ↦ inl (eqb-true q x same) | inr other ↦ inr other ]

-- one entry taken over
pub taken : (all : fin.FinSet nat_cmp) (n base : ℕ) (row : List ℕ) → 0 < n → n < 2 ^ 64
    → (q : ℕ)
    → Has (fin.insert all (slice_index row (base + trailing_zeros w64 n))) (without_lowest n)
    base row q ↔ Has all n base row q
taken all n base row some fits q = (forth, back)
  where
    forth : Has (fin.insert all (slice_index row (base + trailing_zeros w64 n))) (without_lowest n)
        base row q → Has all n base row q
    forth (inl member) =
        elim (or_cases q (slice_index row (base + trailing_zeros w64 n)) (fin.contains all q)
        (sym (contains_more all (slice_index row (base + trailing_zeros w64 n)) q) ∙ member)) [
          | inl same ↦
              let t = bit_at-trailing_zeros w64 n some fits in
              inr (trailing_zeros w64 n, t.0, t.1, sym same)
          | inr before ↦ inl before
        ]
    forth (inr hit) = inr (hit.0, hit.1, (kept_one n hit.0 some fits hit.2).1, hit.3)

    back : Has all n base row q
        → Has (fin.insert all (slice_index row (base + trailing_zeros w64 n))) (without_lowest n)
        base row q
    back (inl member) =
        inl (contains_more all (slice_index row (base + trailing_zeros w64 n)) q
        ∙ or_right _ (fin.contains all q) member)
    back (inr hit) = elim (cases_eq hit.0 (trailing_zeros w64 n)) [
      | inl same ↦
          let e : q ≡ slice_index row (base + trailing_zeros w64 n) =
          sym hit.3 ∙ ap (λ j. slice_index row (base + j)) same in
          inl (contains_more all (slice_index row (base + trailing_zeros w64 n)) q
          ∙ or_left _ (fin.contains all q) (eq-eqb q _ e))
      | inr other ↦
          inr (hit.0, hit.1, others_stay n hit.0 some fits other ∙ hit.2, hit.3)
    ]

-- what the code reads at the lowest one
pub lowest_can : (most n base : ℕ) (row : List ℕ) → 0 < n → n < 2 ^ 64 → CanTranslateLane most n base row
    → (trailing_zeros w64 n < 64) × (base + trailing_zeros w64 n < length row)
    × (slice_index row (base + trailing_zeros w64 n) < most)
lowest_can most n base row some fits can =
    let t = bit_at-trailing_zeros w64 n some fits in
    let here = can (trailing_zeros w64 n) t.0 t.1 in
    (t.0, here.0, here.1)

pub no_image : (s : fin.FinSet nat_cmp) (lanes row : List ℕ) → s ≡ fin.empty → (q : ℕ)
    → IsTrue (fin.contains s q) ↔ IsImageBelow lanes 0 row q
no_image s lanes row e q = (
  λ member. absurd
      (false≢true (sym (contains-empty nat_cmp q) ∙ ap (λ t. fin.contains t q) (sym e) ∙ member)),
  λ image. absurd (omega (arith, image.1)),
)

-- ---- the lanes one after another

has_one : (lanes : List ℕ) (i j : ℕ) → j < 64 → bit_at (slice_index lanes i) j ≡ 1
    → has lanes (64 * i + j) ≡ true
has_one lanes i j lt one =
    let row : (64 * i + j) / 64 ≡ i = omega arith in
    let col : (64 * i + j) % 64 ≡ j = omega arith in
    rw (row, col) (eq-eqb _ 1 one)

one_has : (lanes : List ℕ) (x : ℕ) → has lanes x ≡ true
    → bit_at (slice_index lanes (x / 64)) (x % 64) ≡ 1
one_has lanes x e = eqb-true _ 1 e

pub lane_more : (all new : fin.FinSet nat_cmp) (lanes : List ℕ) (i : ℕ) (row : List ℕ)
    → ((q : ℕ) → IsTrue (fin.contains all q) ↔ IsImageBelow lanes i row q)
    → ((q : ℕ) → IsTrue (fin.contains new q) ↔ Has all (slice_index lanes i) (64 * i) row q)
    → (q : ℕ) → IsTrue (fin.contains new q) ↔ IsImageBelow lanes (i + 1) row q
lane_more all new lanes i row before more q =
    (λ member. forth ((more q).0 member), λ image. (more q).1 (back image))
  where
    forth : Has all (slice_index lanes i) (64 * i) row q → IsImageBelow lanes (i + 1) row q
    forth (inl member) = let image = (before q).0 member in
        (image.0, omega (arith, image.1), image.2, image.3)
    forth (inr hit) =
        (64 * i + hit.0, omega (arith, hit.1), has_one lanes i hit.0 hit.1 hit.2, hit.3)

    back : IsImageBelow lanes (i + 1) row q → Has all (slice_index lanes i) (64 * i) row q
    back image = elim (cases_lt image.0 (64 * i)) [
      | inl low ↦ inl ((before q).1 (image.0, low, image.2, image.3))
      | inr high ↦
          let lane : image.0 / 64 ≡ i = omega (arith, image.1) in
          let place : 64 * i + image.0 % 64 ≡ image.0 = omega (arith, image.1) in
          let low : image.0 % 64 < 64 = omega arith in
          inr (
            image.0 % 64,
            low,
            ap (λ k. bit_at (slice_index lanes k) (image.0 % 64)) (sym lane)
                ∙ one_has lanes image.0 image.2,
            ap (slice_index row) place ∙ image.3,
          )
    ]

pub lane_can : (most : ℕ) (lanes row : List ℕ) (i : ℕ) → CanTranslate most (set_of lanes) row
    → CanTranslateLane most (slice_index lanes i) (64 * i) row
lane_can most lanes row i can j below one =
    can (64 * i + j) (contains-set_of lanes (64 * i + j) ∙ has_one lanes i j below one)

-- ---- the image of a set

any_from : (f : ℕ → ℕ) (xs : List ℕ) (q : ℕ) → list_any (λ y. y == q) (map f xs) ≡ true
    → (x : ℕ) × (list_any (eq_by_cmp nat_cmp x) xs ≡ true) × (f x ≡ q)
any_from f [] q e = absurd (cc)
any_from f (x ∷ xs) q e = elim (or_cases (f x) q (list_any (λ y. y == q) (map f xs)) e) [
  | inl same ↦ (x, or_left _ _ (unsigned_tied x x ∙ eq-eqb x x refl), same)
  | inr rest ↦ let r = any_from f xs q rest in (r.0, or_right _ _ r.1, r.2)
]

any_to : (f : ℕ → ℕ) (xs : List ℕ) (x q : ℕ) → list_any (eq_by_cmp nat_cmp x) xs ≡ true → f x ≡ q
    → list_any (λ y. y == q) (map f xs) ≡ true
any_to f [] x q e same = absurd (cc)
any_to f (y ∷ xs) x q e same = elim (or_cases x y _ (rw unsigned_tied at e)) [
  | inl here ↦ or_left _ _ (eq-eqb (f y) q (ap f (sym here) ∙ same))
  | inr rest ↦ or_right _ _ (any_to f xs x q rest same)
]

-- the members of the image are the row's entries at the members
pub translated_from : (s : fin.FinSet nat_cmp) (row : List ℕ) (q : ℕ)
    → IsTrue (fin.contains (translated s row) q) → (x : ℕ) × IsTrue (fin.contains s x)
    × (slice_index row x ≡ q)
translated_from s row q member =
    let r =
    any_from (λ x. slice_index row x) (fin.items s) q
    (sym (contains-from_list_nat (map (λ x. slice_index row x) (fin.items s)) q) ∙ member) in
    (r.0, contains-items s r.0 ∙ r.1, r.2)

pub translated_to : (s : fin.FinSet nat_cmp) (row : List ℕ) (x q : ℕ) → IsTrue (fin.contains s x)
    → slice_index row x ≡ q → IsTrue (fin.contains (translated s row) q)
translated_to s row x q member same =
    contains-from_list_nat (map (λ x. slice_index row x) (fin.items s)) q
    ∙ any_to (λ x. slice_index row x) (fin.items s) x q (sym (contains-items s x) ∙ member) same

pub small_members : (lanes : List ℕ) (x : ℕ) → IsTrue (fin.contains (set_of lanes) x)
    → x < 64 * length lanes
small_members lanes x member = elim (cases_lt x (64 * length lanes)) [
  | inl low ↦ low
  | inr past ↦ absurd
      (true≢false (sym (sym (contains-set_of lanes x) ∙ member) ∙ has_past lanes x past))
]

-- where no member stands past the first lanes
lanes_so_far : (all : fin.FinSet nat_cmp) (lanes row : List ℕ) (n : ℕ)
    → ((q : ℕ) → IsTrue (fin.contains all q) ↔ IsImageBelow lanes n row q)
    → ((x : ℕ) → has lanes x ≡ true → x < 64 * n)
    → all ≡ translated (set_of lanes) row
lanes_so_far all lanes row n image below = same_set nat_cmp_total nat_cmp-IsAntisymmetric all _ (λ q. both_ways _ _
    (λ member. let i = (image q).0 member in
    translated_to (set_of lanes) row i.0 q (contains-set_of lanes i.0 ∙ i.2) i.3)
    (λ member.
    let i = translated_from (set_of lanes) row q member in
    let one : has lanes i.0 ≡ true = sym (contains-set_of lanes i.0) ∙ i.1 in
    (image q).1 (i.0, below i.0 one, one, i.2)))

pub all_lanes : (all : fin.FinSet nat_cmp) (lanes row : List ℕ)
    → ((q : ℕ) → IsTrue (fin.contains all q) ↔ IsImageBelow lanes (length lanes) row q)
    → all ≡ translated (set_of lanes) row
all_lanes all lanes row image =
    lanes_so_far all lanes row (length lanes) image
    (λ x one. small_members lanes x (contains-set_of lanes x ∙ one))

-- or a row that has no entry there
pub short_row : (most : ℕ) (all : fin.FinSet nat_cmp) (lanes row : List ℕ) (n : ℕ)
    → CanTranslate most (set_of lanes) row
    → ((q : ℕ) → IsTrue (fin.contains all q) ↔ IsImageBelow lanes n row q)
    → length row ≤ 64 * n → all ≡ translated (set_of lanes) row
short_row most all lanes row n can image short =
    lanes_so_far all lanes row n image
    (λ x one. let here = (can x (contains-set_of lanes x ∙ one)).0 in omega arith)

-- as many lanes as there are, or as the row has entries for
pub so_far : (most : ℕ) (all : fin.FinSet nat_cmp) (lanes row : List ℕ) (n : ℕ)
    → CanTranslate most (set_of lanes) row
    → ((q : ℕ) → IsTrue (fin.contains all q) ↔ IsImageBelow lanes n row q)
    → (64 * n < length row → n ≡ length lanes) → all ≡ translated (set_of lanes) row
so_far most all lanes row n can image end = elim (cases_lt (64 * n) (length row)) [
  | inl more ↦
      all_lanes all lanes row
      (subst (λ i. (q : ℕ) → IsTrue (fin.contains all q) ↔ IsImageBelow lanes i row q) (end more) image)
  | inr short ↦ short_row most all lanes row n can image short
]
