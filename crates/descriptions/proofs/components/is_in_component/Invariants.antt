use Rattle.std.proofs.Common.{◌≡◌, ◌<◌}
use Rattle.descriptions.proofs.PowerLaws.{NoneBelow, power}
use Rattle.descriptions.proofs.components.is_in_component.Given as goal

abbrev pub invariant-loop-step : goal.invariant-loop-step
invariant-loop-step l = record {
  within : l.power < l.table.order;
  is : l.power ≡ power l.table l.x l._step;
  none : NoneBelow l.table l.x l._step;
}
