use Rattle.std.proofs.Common.{arith}
use Rattle.std.proofs.lemmas.Bool.Decides.{nat_tests}
use Rattle.positions.proofs.Words.{read_more, read_all}
use Rattle.positions.proofs.survey.size_of.Goals as goal

pub loop-byte-preserved : goal.loop-byte-preserved
loop-byte-preserved c =
    rw c.min-size.ensures
    (read_more c.args.word.now c.loop-byte.byte-index c.loop-byte.size (omega arith)
    c.loop-byte.invariant (omega arith, omega arith))

pub returns : goal.returns
returns c =
    read_all c.args.word.now c.loop-byte.byte-index c.loop-byte.size (grind (arith, nat_tests))
    c.if-word-eq48.false (let e = c.loop-byte.auto.byte-index-end in
    omega arith) c.loop-byte.invariant
