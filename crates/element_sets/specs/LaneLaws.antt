-- Which numbers the set of some lanes has, and its lanes again.
use Rattle.std.proofs.Common.{◌≡◌, ℕ, zero, suc, ◌+◌, ◌-◌, ◌*◌, ◌/◌, ◌%◌, ◌^◌, ◌<◌, ◌≤◌, Bool, true, false, cond, eqb, ltb, List, ◌∷◌, length, get_or, refl, sym, ap, ap₂, ◌∙◌, inl, inr, arith}
use Rattle.std.specs.Prelude.{◌&&◌, ◌||◌}
use Rattle.std.specs.Int.{bit_at}
use Rattle.std.specs.Ordering.{nat_cmp}
use Rattle.std.specs.List.{list_any}
use Rattle.std.specs.FinSet as fin
use Rattle.std.specs.FinSet.{contains-from_list_nat}
use Rattle.std.proofs.lemmas.Bool.Decides.{nat_tests}
use Rattle.std.proofs.lemmas.Bool.{cases_lt}
use Rattle.std.proofs.lemmas.List.{get_or_past, ext_get_or}
use Rattle.std.proofs.lemmas.Nat.Bits.{bit_at-lt, bit_at-zero, same_from_bits_below, bit_at_cat_low, bit_at_cat_high}
use Rattle.element_sets.specs.Lanes.{has, members_below, set_of}
use Rattle.element_sets.specs.Same.{lane_of, lanes_from, lanes_of}

-- no bit past the lanes
pub has_past : (ls : List ℕ) (q : ℕ) → 64 * length ls ≤ q → has ls q ≡ false
has_past ls q past =
    let out : length ls ≤ q / 64 = omega arith in
    ap (λ n. eqb (bit_at n (q % 64)) 1) (get_or_past ls (q / 64) 0 out)
    ∙ ap (λ n. eqb n 1) (bit_at-zero (q % 64))

member_step : (b : Bool) (n q : ℕ) (r h : Bool) → (q ≡ n → b ≡ h) → r ≡ (ltb q n && h)
    → (cond b (eqb n q || r) r) ≡ (ltb q (suc n) && h)
member_step b n q r h same e = grind (arith, nat_tests)

any_cond : (b : Bool) (n q : ℕ) (xs : List ℕ) → list_any (λ y. eqb y q) (cond b (n ∷ xs) xs)
    ≡ cond b (eqb n q || list_any (λ y. eqb y q) xs) (list_any (λ y. eqb y q) xs)
any_cond true n q xs = refl
any_cond false n q xs = refl

any_members : (ls : List ℕ) (n q : ℕ) → list_any (λ y. eqb y q) (members_below ls n)
    ≡ (ltb q n && has ls q)
unfolding members_below
any_members ls zero q = grind (arith, nat_tests)
any_members ls (suc n) q =
    any_cond (has ls n) n q (members_below ls n)
    ∙ member_step (has ls n) n q _ (has ls q) (λ e. ap (has ls) (sym e)) (any_members ls n q)

pub contains-set_of : (ls : List ℕ) (q : ℕ) → fin.contains (set_of ls) q ≡ has ls q
unfolding set_of
contains-set_of ls q =
    contains-from_list_nat (members_below ls (64 * length ls)) q ∙ any_members ls (64 * length ls) q
    ∙ below (64 * length ls) (has ls q) (λ past. has_past ls q past)
  where
    below : (n : ℕ) (h : Bool) → (n ≤ q → h ≡ false) → (ltb q n && h) ≡ h
    below n h past = grind (arith, nat_tests)

bit_below : (b : Bool) → cond b 1 0 < 2
bit_below true = omega arith
bit_below false = omega arith

top_bit : (b : Bool) (n r : ℕ) → r < 2 ^ n → cond b 1 0 * 2 ^ n + r < 2 ^ suc n
top_bit true n r h = grind arith
top_bit false n r h = grind arith

lane_of-lt : (s : fin.FinSet nat_cmp) (b n : ℕ) → lane_of s b n < 2 ^ n
unfolding lane_of
lane_of-lt s b zero = omega arith
lane_of-lt s b (suc n) = top_bit (fin.contains s (b + n)) n (lane_of s b n) (lane_of-lt s b n)

bit_lane_of : (s : fin.FinSet nat_cmp) (b n j : ℕ) → j < n
    → bit_at (lane_of s b n) j ≡ cond (fin.contains s (b + j)) 1 0
unfolding lane_of
bit_lane_of s b zero j lt = absurd (omega arith)
bit_lane_of s b (suc n) j lt = elim (cases_lt j n) [
  | inl below ↦ bit_at_cat_low (cond (fin.contains s (b + n)) 1 0) n (lane_of s b n) j below
      ∙ bit_lane_of s b n j below
  | inr here ↦
      let e : j ≡ n = omega arith in
      let z : j - n ≡ 0 = omega arith in
      bit_at_cat_high (cond (fin.contains s (b + n)) 1 0) n (lane_of s b n) j (lane_of-lt s b n)
      here
      ∙ ap (bit_at (cond (fin.contains s (b + n)) 1 0)) z ∙ low (fin.contains s (b + n))
      ∙ ap (λ k. cond (fin.contains s (b + k)) 1 0) (sym e)
]
  where
    low : (b : Bool) → bit_at (cond b 1 0) 0 ≡ cond b 1 0
    low true = refl
    low false = refl

lane_is : (xs : List ℕ) (i : ℕ) → ((i : ℕ) → get_or xs i 0 < 2 ^ 64)
    → lane_of (set_of xs) (64 * i) 64 ≡ get_or xs i 0
lane_is xs i fits =
    same_from_bits_below 64 (lane_of (set_of xs) (64 * i) 64) (get_or xs i 0)
    (lane_of-lt (set_of xs) (64 * i) 64) (fits i) (λ j lt.
    let row : (64 * i + j) / 64 ≡ i = omega arith in
    let col : (64 * i + j) % 64 ≡ j = omega arith in
    bit_lane_of (set_of xs) (64 * i) 64 j lt
    ∙ ap (λ b. cond b 1 0)
    (contains-set_of xs (64 * i + j) ∙ ap₂ (λ k b. eqb (bit_at (get_or xs k 0) b) 1) row col)
    ∙ back (bit_at (get_or xs i 0) j) (bit_at-lt (get_or xs i 0) j))
  where
    back : (m : ℕ) → m < 2 → cond (eqb m 1) 1 0 ≡ m
    back m h = grind (arith, nat_tests)

length-lanes_from : (s : fin.FinSet nat_cmp) (b n : ℕ) → length (lanes_from s b n) ≡ n
unfolding lanes_from
length-lanes_from s b zero = refl
length-lanes_from s b (suc n) = ap suc (length-lanes_from s (b + 64) n)

lane_at : (s : fin.FinSet nat_cmp) (b n i : ℕ) → i < n
    → get_or (lanes_from s b n) i 0 ≡ lane_of s (b + 64 * i) 64
unfolding lanes_from
lane_at s b zero i lt = absurd (omega arith)
lane_at s b (suc n) zero lt = let e : b ≡ b + 64 * 0 = omega arith in ap (λ k. lane_of s k 64) e
lane_at s b (suc n) (suc i) lt = let e : b + 64 + 64 * i ≡ b + 64 * suc i = omega arith in
    lane_at s (b + 64) n i (omega arith) ∙ ap (λ k. lane_of s k 64) e

pub lanes_of-set_of : (count : ℕ) (xs : List ℕ) → length xs ≡ count
    → ((i : ℕ) → get_or xs i 0 < 2 ^ 64) → lanes_of count (set_of xs) ≡ xs
lanes_of-set_of count xs long fits =
    ext_get_or 0 _ xs (length-lanes_from (set_of xs) 0 count ∙ sym long) (λ i lt.
    let e : 0 + 64 * i ≡ 64 * i = omega arith in
    lane_at (set_of xs) 0 count i (omega (arith, length-lanes_from (set_of xs) 0 count))
    ∙ ap (λ k. lane_of (set_of xs) k 64) e ∙ lane_is xs i fits)
