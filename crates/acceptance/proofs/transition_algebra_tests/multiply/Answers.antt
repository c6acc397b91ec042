use Rattle.std.proofs.Common.{arith}
use Rattle.acceptance.proofs.transition_algebra_tests.multiply.Goals as goal

pub invariant_of-monoid : goal.invariant_of-monoid
invariant_of-monoid c = let small = c.requires.small in omega arith
