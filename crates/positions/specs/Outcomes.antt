-- The outcome of a position. Misère outcomes: Siegel, 'Combinatorial Game Theory', chapter V.
use Rattle.std.specs.Prelude.{ℕ, List}
use Rattle.misere_theory.specs.Games.{IsP, IsN}
use Rattle.positions.specs.declared.outcome.Outcome.{Outcome}
use Rattle.positions.specs.declared.outcome.Outcome.TheVariants.{P, N}

-- the position X has this misère outcome
abbrev pub HasOutcome : List ℕ → List ℕ → Outcome → Type 0
HasOutcome code X P = IsP code X
HasOutcome code X N = IsN code X
