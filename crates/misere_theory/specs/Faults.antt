-- The faults 2 to 6 of a certificate's numbers, each as numbers that show it. This project's own.
use Rattle.std.specs.Prelude.{◌≡◌, ◌≢◌, ℕ, ◌+◌, ◌-◌, ◌≤◌, ◌<◌, ◌⊎◌, length, slice_index, slice_index_or}
use Rattle.misere_theory.specs.Quotients.{LawFails}
use Rattle.misere_theory.specs.Numbering.{KeyBelow}
use Rattle.misere_theory.specs.Certificates.{Certificate, phi_at, times_of, claim_of, key_of, pairs_from, LeastApart}

-- Fault 2: 0 isn't the identity, or the table isn't commutative, or not associative.
abbrev pub LawFault : Certificate → Type 0
LawFault c = LawFails c.order (times_of c)

-- Fault 3: the key of some element e > 0 has no smaller element, or another product than e.
abbrev pub WordFault : Certificate → Type 0
WordFault c =
    (e : ℕ) × (0 < e) × (e < c.order)
    × ((e ≤ (key_of c e).0) ⊎ (times_of c (key_of c e).0 (phi_at c (key_of c e).1) ≢ e))

-- Fault 4: two keys in a row don't rise, or an element and a heap whose product is above 0 come
-- before the key of the product.
abbrev pub OrderFault : Certificate → Type 0
OrderFault c =
    ((e : ℕ) × (0 < e) × (e + 1 < c.order) × (KeyBelow (key_of c e) (key_of c (e + 1)) → ⊥))
    ⊎ ((f : ℕ) × (h : ℕ) × (f < c.order) × (1 ≤ h) × (h < c.start + c.period)
    × (0 < times_of c f (phi_at c h))
    × KeyBelow (f, h) (key_of c (times_of c f (phi_at c h))))

-- Fault 5: a smaller period serves from start on, or the period serves from the heap before start
-- on. A partial certificate, which has no period, never has it.
abbrev pub PeriodFault : Certificate → Type 0
PeriodFault c =
    ((r : ℕ) × (1 ≤ r) × (r < c.period) × ((n : ℕ) → c.start ≤ n → phi_at c (r + n) ≡ phi_at c n))
    ⊎ ((1 ≤ c.period) × (1 < c.start)
    × (phi_at c (c.period + (c.start - 1)) ≡ phi_at c (c.start - 1)))

-- Fault 6: beside some pair of elements stands another number than the least element that tells it
-- apart.
abbrev pub ApartFault : Certificate → Type 0
ApartFault c =
    (i : ℕ) × (i < length (pairs_from 0 c.order))
    × (LeastApart (claim_of c) (slice_index_or (pairs_from 0 c.order) i (0, 0))
    (slice_index c.apart i) → ⊥)
