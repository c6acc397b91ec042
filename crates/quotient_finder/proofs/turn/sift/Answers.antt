use Rattle.std.proofs.Common.{rules}
use Rattle.std.specs.Cmp.Lexicographic.{bytes_decides}
use Rattle.quotient_finder.proofs.turn.sift.Goals as goal
use Rattle.quotient_finder.proofs.turn.sift.Goals.{else-heaps-via-then-heaps+else-eq, else-heaps-via-else-heaps}

pub returns-else-heaps-clause-sifted : goal.returns-else-heaps-clause-sifted
returns-else-heaps-clause-sifted c asked =
    elim c.else-heaps.branch [
      | else-heaps-via-then-heaps+else-eq w ↦ search (rules, bytes_decides)
      | else-heaps-via-else-heaps w ↦ search rules
    ]
