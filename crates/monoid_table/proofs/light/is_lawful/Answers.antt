use Rattle.monoid_table.specs.Grids.{entry}
use Rattle.monoid_table.proofs.LightTest.{is-monoid, stays-below}
use Rattle.monoid_table.proofs.light.is_lawful.Goals as goal

pub returns-then-holds_at_pairs : goal.returns-then-holds_at_pairs
returns-then-holds_at_pairs c = (
  λ held. is-monoid c.args.order (entry c.args.order c.args.rows.now) c.requires.positive
      (stays-below _ _ c.requires) (c.holds_at_pairs.ensures.0 c.if-holds_at_pairs.true)
      (c.generators_associate.ensures.enough held),
  c.generators_associate.ensures.needed,
)
