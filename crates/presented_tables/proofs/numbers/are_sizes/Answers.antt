use Rattle.std.proofs.Common.{refl, arith}
use Rattle.presented_tables.specs.Numbers.{IsSize}
use Rattle.presented_tables.proofs.Below.{below}
use Rattle.presented_tables.proofs.numbers.are_sizes.Goals as goal

pub loop-g-preserved : goal.loop-g-preserved
loop-g-preserved g c =
    below (λ m. IsSize c.args.p.now c.args.s.now m) c.loop-g.g c.loop-g.invariant
    (c.if-not-is_size.ensures refl)

pub returns : goal.returns
returns g c = λ _ m h. c.loop-g.invariant m (grind arith)
