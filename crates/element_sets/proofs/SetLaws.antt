-- What calls do with lanes is done with their sets, however many lanes there are.
use Rattle.std.proofs.Common.{◌≡◌, ℕ, zero, suc, ◌+◌, ◌-◌, ◌*◌, ◌/◌, ◌%◌, ◌^◌, ◌<◌, ◌≤◌, min, max, Bool, true, false, not, eqb, List, [], ◌∷◌, length, get_or, set, bit_and, bit_or, refl, sym, ap, ap₂, ◌∙◌, inl, inr, arith, w64}
use Rattle.std.specs.Prelude.{◌&&◌, ◌||◌, IsTrue}
use Rattle.std.specs.Int.{bit_at, trailing_zeros}
use Rattle.std.specs.Ordering.{nat_cmp}
use Rattle.std.specs.Cmp.{both_ways, nat_cmp_total, unsigned_tied}
use Rattle.std.specs.FinSet as fin
use Rattle.std.specs.FinSet.{nat_cmp-IsAntisymmetric, contains-insert, contains-union, contains-empty, same_set, is_subset-contains, contains-is_subset}
use Rattle.std.proofs.lemmas.Bool.Decides.{nat_tests}
use Rattle.std.proofs.lemmas.Bool.{cases_lt, cases_eq, and_parts, ne_eqb, eq-eqb, true≢false, not-true, false_from_ne_true, both_ways as both_answers}
use Rattle.std.proofs.lemmas.List.{get_or_past, get_or-set_same, get_or-set_other}
use Rattle.std.proofs.lemmas.Nat.Bits.{bit_at_and, bit_at_or, bit_at_not, bit_at-lt, bit_at-zero, bit_at_set_same, bit_at_set_other, bit_at-trailing_zeros, shr_and_one}
use Rattle.std.proofs.lemmas.Nat.{le_or_l, le_or_r, and_le_l, or_lt}
use Rattle.std.specs.Int.Bits.{or_zero_l}
use Rattle.std.proofs.Common.{◌⊎◌}
use Rattle.std.proofs.lemmas.Simd.{get_or-zip2, length-zip2}
use lib.Lanes.{zip2, fold_l}
use Rattle.std.proofs.Common.{subst}
use Rattle.std.proofs.lemmas.List.{ext_get_or}
use Rattle.std.specs.Str.{bytes_eq}
use Rattle.std.proofs.lemmas.Slice.Eq.{bytes_eq-Decides}
use Rattle.std.proofs.lemmas.Nat.Bits.{same_from_bits_below}
use Rattle.element_sets.specs.Same.{same, same-is, same-itself}
use Rattle.std.proofs.Common.{map}
use Rattle.std.specs.Prelude.{replicate}
use Rattle.std.proofs.Math.Nat.{eq-zero-or-pos}
use Rattle.std.proofs.lemmas.List.{length-map, get_or-map}
use Rattle.element_sets.specs.Lanes.{has, set_of}
use Rattle.element_sets.specs.LaneLaws.{has_past, contains-set_of}

or_bit : (m n : ℕ) → m < 2 → n < 2 → eqb (max m n) 1 ≡ (eqb m 1 || eqb n 1)
or_bit m n a b = grind (arith, nat_tests)

and_bit : (m n : ℕ) → m < 2 → n < 2 → eqb (min m n) 1 ≡ (eqb m 1 && eqb n 1)
and_bit m n a b = grind (arith, nat_tests)

not_bit : (m : ℕ) → m < 2 → eqb (1 - m) 1 ≡ not (eqb m 1)
not_bit m a = grind (arith, nat_tests)

-- a set by lanes, where one bit of the lanes' result comes from their bits there
module _
    (op : ℕ → ℕ → ℕ) (test : Bool → Bool → Bool) (none : test false false ≡ false)
    (bits : (m n j : ℕ) → eqb (bit_at (op m n) j) 1 ≡ test (eqb (bit_at m j) 1) (eqb (bit_at n j) 1))
    (xs ys : List ℕ) (q : ℕ) (same : length xs ≡ length ys) where
  has-by : has (zip2 op xs ys) q ≡ test (has xs q) (has ys q)
  has-by = elim (cases_lt q (64 * length xs)) [
    | inl low ↦
        ap (λ n. eqb (bit_at n (q % 64)) 1)
        (get_or-zip2 op xs ys (q / 64) 0 0 0 (omega arith) (omega arith))
        ∙ bits (get_or xs (q / 64) 0) (get_or ys (q / 64) 0) (q % 64)
    | inr past ↦ has_past _ q (omega (arith, length-zip2 op xs ys same))
        ∙ sym (ap₂ test (has_past xs q past) (has_past ys q (omega arith)) ∙ none)
  ]

pub has-or : (xs ys : List ℕ) (q : ℕ) → length xs ≡ length ys
    → has (zip2 bit_or xs ys) q ≡ (has xs q || has ys q)
has-or = has-by bit_or (λ a b. a || b) refl
    (λ m n j. ap (λ v. eqb v 1) (bit_at_or m n j) ∙ or_bit _ _ (bit_at-lt m j) (bit_at-lt n j))

pub has-and : (xs ys : List ℕ) (q : ℕ) → length xs ≡ length ys
    → has (zip2 bit_and xs ys) q ≡ (has xs q && has ys q)
has-and = has-by bit_and (λ a b. a && b) refl
    (λ m n j. ap (λ v. eqb v 1) (bit_at_and m n j) ∙ and_bit _ _ (bit_at-lt m j) (bit_at-lt n j))

pub set_of-or : (xs ys : List ℕ) → length xs ≡ length ys
    → set_of (zip2 bit_or xs ys) ≡ fin.union (set_of xs) (set_of ys)
set_of-or xs ys same = same_set nat_cmp_total nat_cmp-IsAntisymmetric _ _ (λ q.
    contains-set_of _ q ∙ has-or xs ys q same
    ∙ sym (contains-union nat_cmp_total (set_of xs) (set_of ys) q
    ∙ ap₂ (λ a b. a || b) (contains-set_of xs q) (contains-set_of ys q)))

pub set_of-empty : (zs : List ℕ) → ((i : ℕ) → get_or zs i 0 ≡ 0) → set_of zs ≡ fin.empty
set_of-empty zs zeros = same_set nat_cmp_total nat_cmp-IsAntisymmetric _ _ (λ q.
    contains-set_of _ q ∙ ap (λ n. eqb (bit_at n (q % 64)) 1) (zeros (q / 64))
    ∙ ap (λ n. eqb n 1) (bit_at-zero (q % 64)) ∙ sym (contains-empty nat_cmp q))

-- the first lanes that a set has
pub zeros : (n i : ℕ) → ◌≡◌ {A = ℕ} (get_or (replicate n 0) i 0) 0
zeros zero i = refl
zeros (suc n) zero = refl
zeros (suc n) (suc i) = zeros n i

-- a number is looked up in its lane, and turned down where there is none
pub looked_up : (xs : List ℕ) (x : ℕ)
    → eqb (bit_and (get_or xs (x / 64) 0 / 2 ^ (x % 64)) 1) 1 ≡ fin.contains (set_of xs) x
looked_up xs x = ap (λ m. eqb m 1) (shr_and_one _ _) ∙ sym (contains-set_of xs x)

pub turned_down : (xs : List ℕ) (x : ℕ) → length xs ≤ x / 64 → false ≡ fin.contains (set_of xs) x
turned_down xs x past = sym (contains-set_of xs x ∙ has_past xs x (omega arith))

-- one bit more
pub has-set : (xs : List ℕ) (x q : ℕ) → x / 64 < length xs
    → has (set xs (x / 64) (bit_or (get_or xs (x / 64) 0) (1 * 2 ^ (x % 64) % 2 ^ 64))) q
    ≡ (eqb q x || has xs q)
has-set xs x q i =
    let k : x % 64 < 64 = omega arith in
    let m = get_or xs (x / 64) 0 in
    let v = bit_or m (1 * 2 ^ (x % 64) % 2 ^ 64) in
    elim (cases_eq (q / 64) (x / 64)) [
      | inl row ↦ elim (cases_eq (q % 64) (x % 64)) [
        | inl col ↦ rw (
          row,
          col,
          get_or-set_same xs (x / 64) v 0 i,
          bit_at_set_same w64 m (x % 64) k,
          eq-eqb q x (omega arith),
        ) refl
        | inr bit ↦ rw (
          row,
          get_or-set_same xs (x / 64) v 0 i,
          bit_at_set_other w64 m (x % 64) k (q % 64) bit,
          ne_eqb q x (λ e. bit (ap (λ n. n % 64) e)),
        ) refl
      ]
      | inr apart ↦ rw (
        get_or-set_other xs (x / 64) (q / 64) v 0 apart,
        ne_eqb q x (λ e. apart (ap (λ n. n / 64) e)),
      ) refl
    ]

pub set_of-set : (xs : List ℕ) (x : ℕ) → x / 64 < length xs
    → set_of (set xs (x / 64) (bit_or (get_or xs (x / 64) 0) (1 * 2 ^ (x % 64) % 2 ^ 64)))
    ≡ fin.insert (set_of xs) x
set_of-set xs x low = same_set nat_cmp_total nat_cmp-IsAntisymmetric _ _ (λ q.
    contains-set_of _ q ∙ has-set xs x q low
    ∙ sym (contains-insert nat_cmp_total (set_of xs) x q ∙ ap₂ (λ a b. a || b) (unsigned_tied q x)
    (contains-set_of xs q)))

-- ---- whether some bit is set

-- all lanes together are 0 only where each is
pub lanes_zero : (acc : ℕ) (zs : List ℕ) → fold_l bit_or acc zs ≡ 0
    → (acc ≡ 0) × ((i : ℕ) → get_or zs i 0 ≡ 0)
lanes_zero acc [] e = (e, λ i. refl)
lanes_zero acc (z ∷ zs) e =
    let r = lanes_zero (bit_or acc z) zs e in
    let l = le_or_l acc z in
    let m = le_or_r acc z in
    let n = r.0 in
    (omega arith, λ i. at i (omega arith) r.1)
  where
    at : (i : ℕ) → z ≡ 0 → ((k : ℕ) → get_or zs k 0 ≡ 0) → get_or (z ∷ zs) i 0 ≡ 0
    at zero a b = a
    at (suc i) a b = b i

pub none_has : (zs : List ℕ) → fold_l bit_or 0 zs ≡ 0 → (q : ℕ) → has zs q ≡ false
none_has zs e q = ap (λ n. eqb (bit_at n (q % 64)) 1) ((lanes_zero 0 zs e).1 (q / 64))
    ∙ ap (λ n. eqb n 1) (bit_at-zero (q % 64))

-- a lane that isn't 0
nonzero_lane : (acc : ℕ) (zs : List ℕ) → 0 < fold_l bit_or acc zs
    → (0 < acc) ⊎ ((i : ℕ) × (i < length zs) × (0 < get_or zs i 0))
nonzero_lane acc [] h = inl h
nonzero_lane acc (z ∷ zs) h = elim (nonzero_lane (bit_or acc z) zs h) [
  | inl some ↦ elim (cases_lt 0 acc) [
    | inl a ↦ inl a
    | inr a ↦ let e : acc ≡ 0 = omega arith in let some2 : 0 < bit_or 0 z = rw e at some in
        inr (0, omega arith, rw or_zero_l at some2)
  ]
  | inr at ↦ inr (suc at.0, omega arith, at.2)
]

pub some_has : (zs : List ℕ) → ((i : ℕ) → get_or zs i 0 < 2 ^ 64) → 0 < fold_l bit_or 0 zs
    → (q : ℕ) × (has zs q ≡ true)
some_has zs fits h = elim (nonzero_lane 0 zs h) [
  | inl none ↦ absurd (omega arith)
  | inr at ↦
      let z = get_or zs at.0 0 in
      let t = bit_at-trailing_zeros w64 z at.2 (fits at.0) in
      let q = 64 * at.0 + trailing_zeros w64 z in
      let row : q / 64 ≡ at.0 = omega (arith, t.0) in
      let col : q % 64 ≡ trailing_zeros w64 z = omega (arith, t.0) in
      (q, ap₂ (λ i j. eqb (bit_at (get_or zs i 0) j) 1) row col ∙ ap (λ n. eqb n 1) t.1)
]

-- ---- what two sets have in common, and what one lacks

pub and_fits : (xs ys : List ℕ) → length xs ≡ length ys → ((i : ℕ) → get_or xs i 0 < 2 ^ 64)
    → (i : ℕ) → get_or (zip2 bit_and xs ys) i 0 < 2 ^ 64
and_fits xs ys same fits i = elim (cases_lt i (length xs)) [
  | inl lt ↦ omega (
    arith,
    get_or-zip2 bit_and xs ys i 0 0 0 lt (omega arith),
    and_le_l (get_or xs i 0) (get_or ys i 0),
    fits i,
  )
  | inr past ↦ omega
      (arith, get_or_past (zip2 bit_and xs ys) i 0 (omega (arith, length-zip2 bit_and xs ys same)))
]

pub meets_when : (xs ys : List ℕ) → length xs ≡ length ys → ((i : ℕ) → get_or xs i 0 < 2 ^ 64)
    → IsTrue (not (eqb (fold_l bit_or 0 (zip2 bit_and xs ys)) 0))
    → (q : ℕ) × (fin.contains (set_of xs) q ≡ true) × (fin.contains (set_of ys) q ≡ true)
meets_when xs ys same fits h =
    let s = some_has (zip2 bit_and xs ys) (and_fits xs ys same fits) (positive _ h) in
    let b = and_parts _ _ (sym (has-and xs ys s.0 same) ∙ s.1) in
    (s.0, contains-set_of xs s.0 ∙ b.0, contains-set_of ys s.0 ∙ b.1)
  where
    positive : (n : ℕ) → IsTrue (not (eqb n 0)) → 0 < n
    positive n h = grind (arith, nat_tests)

pub meets_from : (xs ys : List ℕ) → length xs ≡ length ys → (q : ℕ)
    → fin.contains (set_of xs) q ≡ true → fin.contains (set_of ys) q ≡ true
    → IsTrue (not (eqb (fold_l bit_or 0 (zip2 bit_and xs ys)) 0))
meets_from xs ys same q a b =
    let h : has (zip2 bit_and xs ys) q ≡ true =
    has-and xs ys q same ∙ ap₂ (λ x y. x && y) (sym (contains-set_of xs q) ∙ a)
    (sym (contains-set_of ys q) ∙ b) in
    rw (ne_eqb _ 0 (λ e. true≢false (sym h ∙ none_has (zip2 bit_and xs ys) e q))) refl

pub set_fits : (xs : List ℕ) (k v : ℕ) → k < length xs → v < 2 ^ 64
    → ((i : ℕ) → get_or xs i 0 < 2 ^ 64) → (i : ℕ) → get_or (set xs k v) i 0 < 2 ^ 64
set_fits xs k v lt h fits i = elim (cases_eq i k) [
  | inl same ↦ rw (same, get_or-set_same xs k v 0 lt) h
  | inr apart ↦ rw (get_or-set_other xs k i v 0 apart) (fits i)
]

pub one_more_fits : (xs : List ℕ) (k b : ℕ) → k < length xs → ((i : ℕ) → get_or xs i 0 < 2 ^ 64)
    → (i : ℕ) → get_or (set xs k (bit_or (get_or xs k 0) (1 * 2 ^ b % 2 ^ 64))) i 0 < 2 ^ 64
one_more_fits xs k b lt fits = set_fits xs k _ lt (or_lt 64 _ _ (fits k) (omega arith)) fits

abbrev not64 : List ℕ → List ℕ
not64 ys = map (λ n. 2 ^ 64 - 1 - n) ys

has-missing : (xs ys : List ℕ) (q : ℕ) → length xs ≡ length ys → ((i : ℕ) → get_or ys i 0 < 2 ^ 64)
    → has (zip2 bit_and xs (not64 ys)) q ≡ (has xs q && not (has ys q))
has-missing xs ys q same fits =
    let long : length xs ≡ length (not64 ys) = same ∙ sym (length-map ys _) in
    has-and xs (not64 ys) q long ∙ elim (cases_lt q (64 * length xs)) [
      | inl low ↦
          let j : q / 64 < length ys = omega arith in
          ap (λ b. has xs q && b)
          (ap (λ n. eqb (bit_at n (q % 64)) 1)
          (get_or-map (λ n. 2 ^ 64 - 1 - n) ys (q / 64) 0 0 j)
          ∙ ap (λ n. eqb n 1)
          (bit_at_not w64 (get_or ys (q / 64) 0) (q % 64) (fits (q / 64)) (omega arith))
          ∙ not_bit _ (bit_at-lt (get_or ys (q / 64) 0) (q % 64)))
      | inr past ↦ ap (λ b. b && has (not64 ys) q) (has_past xs q past)
          ∙ ap (λ b. b && not (has ys q)) (sym (has_past xs q past))
    ]

pub subset_is : (xs ys : List ℕ) → length xs ≡ length ys → ((i : ℕ) → get_or xs i 0 < 2 ^ 64)
    → ((i : ℕ) → get_or ys i 0 < 2 ^ 64) → eqb (fold_l bit_or 0 (zip2 bit_and xs (not64 ys))) 0
    ≡ fin.is_subset (set_of xs) (set_of ys)
subset_is xs ys same fits fits2 =
    let zs = zip2 bit_and xs (not64 ys) in
    let long : length xs ≡ length (not64 ys) = same ∙ sym (length-map ys _) in
    elim (eq-zero-or-pos (fold_l bit_or 0 zs)) [
      | inl none ↦ ap (λ n. eqb n 0) none
          ∙ sym (contains-is_subset nat_cmp_total (set_of xs) (set_of ys) (λ q one.
          contains-set_of ys q ∙ kept (has xs q) (has ys q) (sym (contains-set_of xs q) ∙ one)
          (sym (has-missing xs ys q same fits2) ∙ none_has zs none q)))
      | inr some ↦
          let s = some_has zs (and_fits xs (not64 ys) long fits) some in
          let b = and_parts _ _ (sym (has-missing xs ys s.0 same fits2) ∙ s.1) in
          ne_eqb _ 0 (λ e. omega arith)
          ∙ sym (false_from_ne_true _ (λ all.
          both_answers (has ys s.0) (not-true (has ys s.0) b.1)
          (sym (contains-set_of ys s.0) ∙ is_subset-contains nat_cmp_total (set_of xs)
          (set_of ys) all s.0 (contains-set_of xs s.0 ∙ b.0))))
    ]
  where
    kept : (a b : Bool) → a ≡ true → (a && not b) ≡ false → b ≡ true
    kept a true e h = refl
    kept true false e h = absurd (cc)
    kept false false e h = absurd (cc)

-- ---- equal sets

same_bit : (m n : ℕ) → m < 2 → n < 2 → eqb m 1 ≡ eqb n 1 → m ≡ n
same_bit m n a b e = grind (arith, nat_tests)

pub set_of-injective : (xs ys : List ℕ) → length xs ≡ length ys → ((i : ℕ) → get_or xs i 0 < 2 ^ 64)
    → ((i : ℕ) → get_or ys i 0 < 2 ^ 64) → set_of xs ≡ set_of ys → xs ≡ ys
set_of-injective xs ys same_length fits fits2 e =
    ext_get_or 0 xs ys same_length
    (λ i lt. same_from_bits_below 64 (get_or xs i 0) (get_or ys i 0) (fits i) (fits2 i)
    (λ j lt2.
    let q = 64 * i + j in
    let row : q / 64 ≡ i = omega arith in
    let col : q % 64 ≡ j = omega arith in
    let h : has xs q ≡ has ys q = sym (contains-set_of xs q) ∙ ap (λ s. fin.contains s q) e
    ∙ contains-set_of ys q in
    same_bit _ _ (bit_at-lt (get_or xs i 0) j) (bit_at-lt (get_or ys i 0) j) (rw (row, col) at h)))

pub eq_is : (xs ys : List ℕ) → length xs ≡ length ys → ((i : ℕ) → get_or xs i 0 < 2 ^ 64)
    → ((i : ℕ) → get_or ys i 0 < 2 ^ 64) → bytes_eq xs ys ≡ same (set_of xs) (set_of ys)
eq_is xs ys same_length fits fits2 = both_ways _ _
    (λ e. subst (λ l. same (set_of xs) (set_of l) ≡ true) ((bytes_eq-Decides xs ys).0 e)
    (same-itself (set_of xs)))
    (λ e. (bytes_eq-Decides xs ys).1
    (set_of-injective xs ys same_length fits fits2 (same-is _ _ e)))
