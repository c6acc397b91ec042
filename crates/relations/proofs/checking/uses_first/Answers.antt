use Rattle.std.proofs.Common.{arith}
use Rattle.relations.proofs.Letters.{letters-exact}
use Rattle.relations.proofs.checking.uses_first.Goals as goal

pub returns : goal.returns
returns c = λ t. letters-exact c.args.relations.now c.args.letters c.requires
    (λ k lt. c.loop-letter.invariant k (omega arith))
