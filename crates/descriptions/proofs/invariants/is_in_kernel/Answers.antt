use Rattle.descriptions.proofs.Tables.{kernel-from}
use Rattle.descriptions.proofs.invariants.is_in_kernel.Goals as goal

pub returns : goal.returns
returns c = (
  λ t. kernel-from c.args.table.now c.is_monoid.ensures.monoid c.args.low c.args.x
      c.requires.low_in c.requires.x_in c.requires.low (c.divides.ensures.0 t),
  λ k. c.divides.ensures.1 (k c.args.low c.requires.low_in),
)
