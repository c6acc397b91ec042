use Rattle.std.proofs.Common.{◌≡◌, ◌<◌, ℕ}
use Rattle.std.specs.Prelude.{slice_index_or}
use Rattle.description_commands.proofs.alike.are_cycles.Given as goal

abbrev pub invariant-loop-k : goal.invariant-loop-k
invariant-loop-k l = (j : ℕ) (d : ℕ × ℕ) → j < l.k → slice_index_or l.a j d ≡ slice_index_or l.b j d
