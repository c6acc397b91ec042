use Rattle.std.proofs.Common.{◌≡◌}
use Rattle.std.specs.String.{string_bytes}
use Rattle.label_descriptions.specs.Whole.{rank_lines}
use Rattle.label_descriptions.proofs.whole.rank_lines.Given as goal

abbrev pub invariant-loop-i : goal.invariant-loop-i
invariant-loop-i g l = string_bytes l.lines ≡ rank_lines l.style l.text l.i
