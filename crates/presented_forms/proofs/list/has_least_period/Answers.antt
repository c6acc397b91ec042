use Rattle.std.proofs.Common.{arith}
use Rattle.presented_forms.proofs.list.has_least_period.Goals as goal

pub returns : goal.returns
returns g c = λ t. record {
  last = λ z. absurd (omega (arith, z, c.requires.some));
  some = λ _. c.goes_on.ensures c.if-not-goes_on.false;
  least = c.is_least_period.ensures c.if-not-is_least_period.false;
  earliest = λ _ lt. c.is_earliest.ensures t lt;
}
