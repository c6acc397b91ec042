-- Triples in memory, whose weights stop above all leads. This project's own.
use Rattle.std.specs.Prelude.{◌≡◌, ℕ, ◌+◌, ◌%◌, ◌≤◌, ◌⊎◌}
use Rattle.dominance.specs.Triples.{Triple}
use Rattle.label_players.specs.declared.triples.TheConstants.{LARGEST_SUM}
use Rattle.label_players.specs.declared.triples.StoppedTriple.{StoppedTriple}

-- the number; or both are as large as where weights stop, and of one parity
abbrev pub IsStopped : ℕ → ℕ → Type 0
IsStopped w x = (x ≡ w) ⊎ ((LARGEST_SUM ≤ x) × (LARGEST_SUM ≤ w) × (x % 2 ≡ w % 2))

-- the triple but for weights that are stopped
pub record IsTripleOf (u : Triple) (l : StoppedTriple) : Type 0 where
  pub odd : l.odd ≡ u.odd
  pub weight : IsStopped u.weight l.weight
  pub lead : l.lead ≡ u.lead
  pub small : (l.weight ≤ LARGEST_SUM + 1) × (l.lead ≤ LARGEST_SUM)
