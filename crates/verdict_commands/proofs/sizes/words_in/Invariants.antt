use Rattle.std.proofs.Common.{length}
use Rattle.verdict_commands.proofs.FaultyWords.{IsPassed}
use Rattle.verdict_commands.proofs.sizes.words_in.Given as goal

abbrev pub invariant-loop-fault : goal.invariant-loop-fault
invariant-loop-fault l = IsPassed l.text l.rest l.number

abbrev pub decreases-loop-fault : goal.decreases-loop-fault
decreases-loop-fault l = length l.rest
