use Rattle.std.proofs.Common.{◌≡◌, ◌^◌}
use Rattle.descriptions.proofs.Orders.{AreOther}
use Rattle.descriptions.proofs.tame.exponent.Given as goal

abbrev pub invariant-loop-n : goal.invariant-loop-n
invariant-loop-n l = record {
  power : l.power ≡ 2 ^ l.n;
  others : AreOther l.order l.n;
}
