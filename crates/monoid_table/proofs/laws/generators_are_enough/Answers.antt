use Rattle.monoid_table.proofs.LightTest.{product-associates, all-associate, is-monoid}
use Rattle.monoid_table.proofs.laws.generators_are_enough.Goals as goal

pub returns : goal.returns
returns c = record {
  closed = product-associates;
  all = all-associate;
  monoid = is-monoid;
}
