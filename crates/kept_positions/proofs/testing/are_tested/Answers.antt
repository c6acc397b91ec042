use Rattle.std.proofs.Common.{refl, arith}
use Rattle.kept_positions.proofs.testing.are_tested.Goals as goal

pub returns : goal.returns
returns g c = λ u. record {
  empty = c.if-not-is_empty_found.ensures refl;
  none_free = c.if-not-is_none_free.ensures refl;
  labels = grind arith;
  made = c.if-not-are_made.ensures refl;
  families = c.if-not-are_families.ensures refl;
  closed = c.are_closed.ensures u;
}
