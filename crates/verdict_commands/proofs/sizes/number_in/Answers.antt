use Rattle.std.proofs.Common.{arith}
use Rattle.positions.proofs.Words.{read_more}
use Rattle.verdict_commands.proofs.FaultyWords.{all_read}
use Rattle.verdict_commands.proofs.sizes.number_in.Goals as goal

pub loop-byte-preserved : goal.loop-byte-preserved
loop-byte-preserved c =
    rw c.min-size.ensures
    (read_more c.args.word.now c.loop-byte.byte-index c.loop-byte.size (omega arith)
    c.loop-byte.invariant (omega arith, omega arith))

pub returns : goal.returns
returns c =
    all_read c.args.word.now c.loop-byte.byte-index c.loop-byte.size
    (let e = c.loop-byte.auto.byte-index-end in omega arith) c.loop-byte.invariant
