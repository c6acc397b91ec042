-- How far each stage of a check has come, over the numbers of the certificate.
use Rattle.std.specs.Prelude.{◌≡◌, ◌≢◌, ℕ, ◌+◌, ◌-◌, ◌≤◌, ◌<◌, Bool, true, false, ◌++◌, drop, length, slice_index, slice_index_or}
use Rattle.misere_theory.specs.Numbering.{KeyBelow}
use Rattle.misere_theory.specs.Certificates.{Certificate, phi_at, times_of, claim_of, key_of, pairs_with, pairs_from, TellsApart, LeastApart}
use Rattle.misere_theory.specs.Verdicts.{Fault, fault_number, HasFault}

-- no fault with a smaller number than this stands
abbrev pub HasNoFaultBelow : ℕ → Certificate → Type 0
HasNoFaultBelow number c = (fault : Fault) → fault_number fault < number → HasFault c fault → ⊥

-- the key of e names a smaller element, and its product is e
abbrev pub IsKeyOf : Certificate → ℕ → Type 0
IsKeyOf c e = ((key_of c e).0 < e) × (times_of c (key_of c e).0 (phi_at c (key_of c e).1) ≡ e)

-- the keys below next were looked at
pub record KeysSoFar (c : Certificate) (next : ℕ) (rising : Bool) : Type 0 where
  pub from_one : 1 ≤ next
  pub within : next ≤ c.order
  pub keyed : (e : ℕ) → 0 < e → e < next → IsKeyOf c e
  pub rise : rising ≡ true → (e : ℕ) → 0 < e → e + 1 < next
      → KeyBelow (key_of c e) (key_of c (e + 1))
  pub falls : rising ≡ false → (e : ℕ) × (0 < e) × (e + 1 < c.order)
      × (KeyBelow (key_of c e) (key_of c (e + 1)) → ⊥)

-- each key is right, and they rise
pub record AreKeys (c : Certificate) : Type 0 where
  pub keyed : (e : ℕ) → 0 < e → e < c.order → IsKeyOf c e
  pub rise : (e : ℕ) → 0 < e → e + 1 < c.order → KeyBelow (key_of c e) (key_of c (e + 1))

-- the product of f and the heap h has no smaller key than its own
abbrev pub IsInOrder : Certificate → ℕ → ℕ → Type 0
IsInOrder c f h = 0 < times_of c f (phi_at c h)
    → KeyBelow (f, h) (key_of c (times_of c f (phi_at c h))) → ⊥

-- the products of the elements below f, and of f with the heaps below h, were looked at
pub record ProductsSoFar (c : Certificate) (f h : ℕ) : Type 0 where
  pub keys : AreKeys c
  pub within : f ≤ c.order
  pub from_one : 1 ≤ h
  pub heap : h < c.start + c.period
  pub rows : (g k : ℕ) → g < f → 1 ≤ k → k < c.start + c.period → IsInOrder c g k
  pub row : (k : ℕ) → 1 ≤ k → k < h → IsInOrder c f k

-- the period, or 1 where there is none
abbrev pub period_or_one : Certificate → ℕ
period_or_one c = c.period + (1 - c.period)

-- The periods below r don't serve, and r serves for i heaps from the start on. Where there is no
-- period, r is 1 and i is 0.
pub record PeriodsSoFar (c : Certificate) (r i : ℕ) : Type 0 where
  pub free : HasNoFaultBelow 5 c
  pub from_one : 1 ≤ r
  pub within : r ≤ period_or_one c
  pub shorter : (s : ℕ) → 1 ≤ s → s < r → (n : ℕ) × (c.start ≤ n) × (phi_at c (s + n) ≢ phi_at c n)
  pub short : i < period_or_one c
  pub same : (j : ℕ) → j < i → phi_at c (r + (c.start + j)) ≡ phi_at c (c.start + j)

-- the pairs of elements before the number were looked at, and for (x, y), which has this number,
-- the elements below z
pub record ApartSoFar (c : Certificate) (x y z number : ℕ) : Type 0 where
  pub free : HasNoFaultBelow 6 c
  pub rises : x < y
  pub within : y ≤ c.order
  pub last : y ≡ c.order → x + 1 ≡ c.order
  pub place : number ≤ length c.apart
  pub rest : drop number (pairs_from 0 c.order) ≡ pairs_with x y (c.order - y)
      ++ pairs_from (x + 1) (c.order - (x + 1))
  pub before : (j : ℕ) → j < number
      → LeastApart (claim_of c) (slice_index_or (pairs_from 0 c.order) j (0, 0))
      (slice_index c.apart j)
  pub element : number < length c.apart → z ≤ slice_index c.apart number
  pub below : (w : ℕ) → w < z → TellsApart (claim_of c) (x, y) w → ⊥
