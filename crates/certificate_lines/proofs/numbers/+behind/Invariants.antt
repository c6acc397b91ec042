use Rattle.std.proofs.Common.{length}
use Rattle.certificate_lines.proofs.numbers.+behind.Given as goal

abbrev pub decreases-behind : goal.decreases-behind
decreases-behind l = length l.bytes.now
