use Rattle.monoid_table.proofs.Costs.{turns-next, turns-taken, turns-not-over, turns-left}
use Rattle.monoid_table.proofs.laws.turns_are_paid.Goals as goal

pub returns : goal.returns
returns c = record {
  next = turns-next;
  taken = turns-taken;
  not_over = turns-not-over;
  left = turns-left;
}
