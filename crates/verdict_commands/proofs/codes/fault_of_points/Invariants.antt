use Rattle.std.proofs.Common.{◌≢◌, ◌≤◌, ◌<◌, ℕ, slice_index}
use Rattle.verdict_commands.proofs.codes.fault_of_points.Given as goal

abbrev pub invariant-loop-index : goal.invariant-loop-index
invariant-loop-index l = (i : ℕ) → 2 ≤ i → i < l.index → slice_index l.text i ≢ 46
