use Rattle.std.proofs.Common.{◌≡◌, ◌<◌, length}
use Rattle.certificate_text.specs.Reading.{more_at}
use Rattle.certificate_lines.proofs.numbers.more.Given as goal

abbrev pub invariant-loop-bytes : goal.invariant-loop-bytes
invariant-loop-bytes l = (more_at l.limit l.n l.bytes ≡ more_at l.limit l.fn.n l.fn.bytes)
    × (l.n < l.limit)

abbrev pub decreases-loop-bytes : goal.decreases-loop-bytes
decreases-loop-bytes l = length l.bytes
