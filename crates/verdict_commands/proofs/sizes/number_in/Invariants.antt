use Rattle.positions.proofs.Words.{IsRead}
use Rattle.verdict_commands.proofs.sizes.number_in.Given as goal

abbrev pub invariant-loop-byte : goal.invariant-loop-byte
invariant-loop-byte l = IsRead l.word l.byte-index l.size
