use Rattle.std.proofs.Common.{◌≡◌, ◌<◌, ℕ, slice_index, true}
use Rattle.verdict_commands.specs.Codes.{is_code_byte}
use Rattle.verdict_commands.proofs.codes.fault_of_bytes.Given as goal

abbrev pub invariant-loop-index : goal.invariant-loop-index
invariant-loop-index l = (i : ℕ) → i < l.index → is_code_byte (slice_index l.text i) ≡ true
