use Rattle.std.proofs.Common.{refl}
use Rattle.kept_positions.specs.Kept.{IsMovable}
use Rattle.presented_tables.specs.Numbers.{HasNumber}
use Rattle.presented_tables.specs.Tested.{HasWord}
use Rattle.presented_tables.proofs.Below.{below}
use Rattle.presented_tables.proofs.numbers.have_numbers.Goals as goal

pub loop-n-preserved : goal.loop-n-preserved
loop-n-preserved g c =
    below (λ m. IsMovable (HasWord c.args.p.now) c.args.p.now.code m → HasNumber c.args.s.now m) c.loop-n.n
    c.loop-n.invariant (c.if-not-has_number.ensures refl)
