-- Outcomes of positions in any order, and outcomes that are seen to differ.
use denote.Enum.Bare.{sameb}
use Rattle.std.proofs.Common.{◌≡◌, ◌≢◌, ℕ, false, List, IsPermutation}
use Rattle.positions.specs.Outcomes.{HasOutcome}
use Rattle.positions.specs.contracts.outcome.Outcome.{the_type}
use Rattle.positions.specs.declared.outcome.Outcome.{Outcome}
use Rattle.positions.specs.declared.outcome.Outcome.TheVariants.{P, N}
use Rattle.misere_theory.proofs.Shuffles.{back, from_permutation, p_shuffled, n_shuffled}

-- in any order the same
pub in-order : (code X Y : List ℕ) (o : Outcome) → IsPermutation X Y → HasOutcome code Y o → HasOutcome code X o
in-order code X Y P s h = p_shuffled h (back (from_permutation X Y s))
in-order code X Y N s h = n_shuffled h (back (from_permutation X Y s))

pub unequal : (a b : Outcome) → sameb the_type a b ≡ false → a ≢ b
unequal P P h = λ e. cc
unequal N N h = λ e. cc
unequal P N h = λ e. cc
unequal N P h = λ e. cc
