-- What leaves a game one certificate at most: the least start and period, and the elements numbered
-- by least keys. This project's own.
use Rattle.std.specs.Prelude.{◌≡◌, ◌≢◌, ℕ, ◌+◌, ◌-◌, ◌≤◌, ◌<◌, ◌⊎◌}
use Rattle.misere_theory.specs.Quotients.{Claim}

-- phi repeats from start on, with no smaller period, and the period serves from no earlier start.
pub record IsLeastPeriod (c : Claim) (start period : ℕ) : Type 0 where
  pub from_one : 1 ≤ start
  pub some : 1 ≤ period
  pub repeats : (n : ℕ) → start ≤ n → c.phi (period + n) ≡ c.phi n
  pub least : (r : ℕ) → 1 ≤ r → r < period → ((n : ℕ) → start ≤ n → c.phi (r + n) ≡ c.phi n) → ⊥
  pub earliest : 1 < start → c.phi (period + (start - 1)) ≢ c.phi (start - 1)

-- A key is an element and a heap. The smaller element comes first, and for one element the smaller
-- heap.
abbrev pub KeyBelow : ℕ × ℕ → ℕ × ℕ → Type 0
KeyBelow a b = (a.0 < b.0) ⊎ ((a.0 ≡ b.0) × (a.1 < b.1))

-- Each element above 0 is the product of its key, a smaller element and one of the heaps 1 to
-- heaps; keys rise with the elements; and no element and heap whose product is e > 0 come before
-- the key of e.
pub record IsNumbered (c : Claim) (heaps : ℕ) (key : ℕ → ℕ × ℕ) : Type 0 where
  pub parent : (e : ℕ) → 0 < e → e < c.order → (key e).0 < e
  pub heap : (e : ℕ) → 0 < e → e < c.order → (1 ≤ (key e).1) × ((key e).1 ≤ heaps)
  pub product : (e : ℕ) → 0 < e → e < c.order → c.times (key e).0 (c.phi (key e).1) ≡ e
  pub rising : (d e : ℕ) → 0 < d → d < e → e < c.order → KeyBelow (key d) (key e)
  pub least : (f h : ℕ) → f < c.order → 1 ≤ h → h ≤ heaps → 0 < c.times f (c.phi h)
      → KeyBelow (f, h) (key (c.times f (c.phi h))) → ⊥
