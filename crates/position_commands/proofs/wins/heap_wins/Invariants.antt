use Rattle.std.specs.String.{string_bytes}
use Rattle.position_commands.specs.Wins.{AreHeapWins}
use Rattle.position_commands.proofs.wins.heap_wins.Given as goal

abbrev pub invariant-loop-at : goal.invariant-loop-at
invariant-loop-at l = AreHeapWins l.quotient l.heaps l.at (string_bytes l.text)
