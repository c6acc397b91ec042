use Rattle.positions.proofs.Words.{IsRead}
use Rattle.positions.proofs.survey.size_of.Given as goal

abbrev pub invariant-loop-byte : goal.invariant-loop-byte
invariant-loop-byte l = IsRead l.word l.byte-index l.size
