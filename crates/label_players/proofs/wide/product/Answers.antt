use Rattle.std.proofs.Common.{arith}
use Rattle.presentations.specs.declared.TheConstants.{LETTERS}
use Rattle.presented_tables.proofs.Words.{sum-word}
use Rattle.label_players.proofs.wide.product.Goals as goal

pub returns : goal.returns
returns c =
    sum-word LETTERS c.args.v.now c.args.w.now c.loop-i.sum c.told-v c.told-w c.loop-i.invariant.long
    (λ i lt. c.loop-i.invariant.so_far i (omega (arith, lt, c.loop-i-test.false)))
