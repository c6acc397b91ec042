-- The entries of a row at the ones of a lane.
use Rattle.std.specs.Prelude.{◌≡◌, ℕ, ◌+◌, ◌<◌, List, slice_index, length}
use Rattle.std.specs.Int.{bit_at}

-- q stands in the row at a one of the lane
abbrev pub Hits : ℕ → ℕ → List ℕ → ℕ → Type 0
Hits lane base row q = (j : ℕ) × (j < 64) × (bit_at lane j ≡ 1) × (slice_index row (base + j) ≡ q)

abbrev pub CanTranslateLane : ℕ → ℕ → ℕ → List ℕ → Type 0
CanTranslateLane most lane base row = (j : ℕ) → j < 64 → bit_at lane j ≡ 1 → (base + j < length row)
    × (slice_index row (base + j) < most)
