-- What shows that a cycle is the least one: words of the list that it would take out of it. This project's own.
use Rattle.std.specs.Prelude.{◌≡◌, ℕ, ◌+◌, ◌-◌, ◌<◌, ◌≤◌, ◌⊎◌, List, slice_index, slice_set, Contains}
use Rattle.presented_claims.specs.Claims.{cycled_exponent}

-- Some word of the list, with at least so many of letter i, isn't in it with so many more.
pub record Breaks (cycle : ℕ × ℕ) (words : List (List ℕ)) (i least more : ℕ) : Type 0 where
  pub word : List ℕ
  pub listed : Contains words word
  pub high : least ≤ slice_index word i
  pub missing : Contains words (slice_set word i (cycled_exponent cycle (slice_index word i + more))) → ⊥

-- Some word of the list isn't in it with one of letter i less than the cycle's start, a period before.
pub record Falls (cycle : ℕ × ℕ) (words : List (List ℕ)) (i : ℕ) : Type 0 where
  pub word : List ℕ
  pub listed : Contains words word
  pub high : slice_index word i ≡ cycle.0 - 1 + cycle.1
  pub missing : Contains words (slice_set word i (cycle.0 - 1)) → ⊥

-- Each smaller period is broken, and so is the start before.
pub record IsShownLeast (cycle : ℕ × ℕ) (words : List (List ℕ)) (i : ℕ) : Type 0 where
  pub some : 0 < cycle.1
  pub least : (p : ℕ) → 0 < p → p < cycle.1 → Breaks cycle words i cycle.0 p
  pub earliest : 0 < cycle.0
      → Breaks cycle words i (cycle.0 - 1) cycle.1 ⊎ Falls cycle words i
