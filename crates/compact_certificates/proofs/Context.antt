-- The contexts of elements, as their lanes are put together.
use Rattle.std.proofs.Common.{◌≡◌, ℕ, suc, ◌+◌, ◌-◌, ◌*◌, ◌/◌, ◌%◌, ◌<◌, ◌≤◌, min, Bool, false, eqb, ltb, List, [], ◌∷◌, ◌++◌, length, take, drop, get_or, ◌∙◌, sym, ap, ap₂, inl, inr, arith, lt-ltb, le-ltb, length-append, add-one, refl}
use Rattle.std.specs.Prelude.{◌&&◌, slice_range, slice_index_or}
use Rattle.std.specs.Int.{bit_at}
use Rattle.std.proofs.Math.Nat.{mul-le-mul_right, suc-mul}
use Rattle.std.proofs.Math.ListN.{get_or-append}
use Rattle.std.proofs.Math.Seq.{get_or-append_seam}
use Rattle.std.proofs.lemmas.Bool.{cases_lt}
use Rattle.std.proofs.lemmas.List.{get_or-take, get_or-drop, length-drop, length-take, take-append-le, drop-append-le, take_all, drop_at}
use Rattle.compact_certificates.specs.Lanes.{has, is_marked, AppendsContext}
use Rattle.compact_certificates.proofs.FlatRows.{part_long}

-- rows below another end before it does
pub row_there : (x order count : ℕ) → x < order → x * count + count ≤ order * count
row_there x order count l =
    let a = mul-le-mul_right {m = suc x} {n = order} count (omega arith) in
    let b = suc-mul x count in
    omega arith

-- marks of a part of a row
pub part_marks : (row : List ℕ) (marked : List Bool) (a n b j : ℕ) → b ≡ min (length row) (a + n)
    → j < n → is_marked (slice_range row a b) marked j ≡ is_marked row marked (a + j)
part_marks row marked a n b j e l =
    let part = take (b - a) (drop a row) in
    let long : length part ≡ min (b - a) (length row - a) =
    length-take (b - a) (drop a row) ∙ ap (min (b - a)) (length-drop a row) in
    elim (cases_lt (a + j) (length row)) [
      | inl low ↦
          let here : get_or part j 0 ≡ get_or row (a + j) 0 =
          get_or-take (b - a) (drop a row) j 0 (omega arith) ∙ get_or-drop a row j 0 in
          rw (lt-ltb j (length part) (omega arith), lt-ltb (a + j) (length row) low, here) refl
      | inr past ↦ rw (le-ltb j (length part) (omega arith), le-ltb (a + j) (length row) past) refl
    ]

-- one lane more
pub one_lane_more : (row : List ℕ) (marked : List Bool) (more : List ℕ) (lane i b : ℕ)
    → length more ≡ i → b ≡ min (length row) (64 * i + 64)
    → ((z : ℕ) → z < 64 * i → has more z ≡ is_marked row marked z)
    → ((j : ℕ) → j < 64
    → eqb (bit_at lane j) 1 ≡ is_marked (slice_range row (64 * i) b) marked j)
    → (z : ℕ) → z < 64 * (i + 1) → has (more ++ lane ∷ []) z ≡ is_marked row marked z
one_lane_more row marked more lane i b long e before bits z l = elim (cases_lt z (64 * i)) [
  | inl low ↦
      ap (λ n. eqb (bit_at n (z % 64)) 1)
      (get_or-append more (lane ∷ []) 0 (z / 64) (omega arith)) ∙ before z low
  | inr late ↦
      let at_ : z / 64 ≡ length more = omega arith in
      let place : 64 * i + z % 64 ≡ z = omega arith in
      ap (λ k. eqb (bit_at (get_or (more ++ lane ∷ []) k 0) (z % 64)) 1) at_
      ∙ ap (λ n. eqb (bit_at n (z % 64)) 1) (get_or-append_seam more lane [] 0)
      ∙ bits (z % 64) (omega arith)
      ∙ part_marks row marked (64 * i) 64 b (z % 64) e (omega arith)
      ∙ ap (is_marked row marked) place
]

-- a context that stood stays where it was
pub part_stays : (xs ys : List ℕ) (a n : ℕ) → a + n ≤ length xs
    → slice_range (xs ++ ys) a (a + n) ≡ slice_range xs a (a + n)
part_stays xs ys a n l =
    let size : a + n - a ≤ length (drop a xs) = let d = length-drop a xs in omega arith in
    ap (take (a + n - a)) (drop-append-le a xs ys (omega arith))
    ∙ take-append-le (a + n - a) (drop a xs) ys size

pub part_behind : (xs ys : List ℕ) (a n : ℕ) → length xs ≡ a → length ys ≡ n
    → slice_range (xs ++ ys) a (a + n) ≡ ys
part_behind xs ys a n e m =
    ap (take (a + n - a)) (drop_at xs ys a e) ∙ take_all (a + n - a) ys (omega arith)

-- whether z is an element whose product with w is marked, in rows that lie one behind the other
abbrev pub product_marked : ℕ → List ℕ → List Bool → ℕ → ℕ → Bool
product_marked order rows marked w z =
    ltb z order && slice_index_or marked (get_or rows (w * order + z) 0) false

-- marks of a row that lies among others
row_marks : (order : ℕ) (rows : List ℕ) (marked : List Bool) (x z : ℕ)
    → x * order + order ≤ length rows
    → is_marked (slice_range rows (x * order) (x * order + order)) marked z
    ≡ product_marked order rows marked x z
row_marks order rows marked x z l = elim (cases_lt z order) [
  | inl low ↦
      part_marks rows marked (x * order) order (x * order + order) z (omega arith) low
      ∙ rw (lt-ltb (x * order + z) (length rows) (omega arith), lt-ltb z order low) refl
  | inr past ↦
      let row = take (x * order + order - x * order) (drop (x * order) rows) in
      let long : length row ≡ order = part_long (x * order) order rows l in
      rw (le-ltb z (length row) (omega arith), le-ltb z order past) refl
]

-- one element's context more
module _
    (order count x : ℕ) (rows : List ℕ) (marked : List Bool) (before after : List ℕ)
    (size : count ≡ (order + 63) / 64) (low : x < order) (all : length rows ≡ order * order)
    (long : length before ≡ x * count)
    (a : AppendsContext before after (slice_range rows (x * order) (x * order + order)) marked)
  where
    row_within : x * order + order ≤ length rows
    row_within = let l = row_there x order order low in omega arith

    more_long : length a.more ≡ count
    more_long =
        a.long ∙ ap (λ n. (n + 63) / 64) (part_long (x * order) order rows row_within) ∙ sym size

    pub after_long : length after ≡ (x + 1) * count
    after_long =
        ap length a.behind ∙ length-append before a.more
        ∙ ap₂ (λ m n. m + n) long more_long
        ∙ sym (ap (λ n. n * count) (add-one x) ∙ suc-mul x count)

    pub after_bits : ((w z : ℕ) → w < x
        → has (slice_range before (w * count) (w * count + count)) z
        ≡ product_marked order rows marked w z)
        → (w z : ℕ) → w < x + 1
        → has (slice_range after (w * count) (w * count + count)) z
        ≡ product_marked order rows marked w z
    after_bits bits w z l = elim (cases_lt w x) [
      | inl earlier ↦
          ap (λ (ls : List ℕ). has (slice_range ls (w * count) (w * count + count)) z) a.behind
          ∙ ap (λ (ls : List ℕ). has ls z)
          (part_stays before a.more (w * count) count
          (let b = row_there w x count earlier in omega arith))
          ∙ bits w z earlier
      | inr late ↦
          let e : w ≡ x = omega arith in
          rw e (ap (λ (ls : List ℕ). has (slice_range ls (x * count) (x * count + count)) z) a.behind
          ∙ ap (λ (ls : List ℕ). has ls z)
          (part_behind before a.more (x * count) count long more_long)
          ∙ a.bits z ∙ row_marks order rows marked x z row_within)
    ]
