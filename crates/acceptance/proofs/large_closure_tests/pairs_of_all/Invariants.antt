use Rattle.std.proofs.Common.{All}
use Rattle.transition_algebra.specs.Pairs.{IsPair}
use Rattle.acceptance.proofs.large_closure_tests.pairs_of_all.Given as goal

abbrev pub invariant-loop-heap : goal.invariant-loop-heap
invariant-loop-heap l = All (IsPair 512) l.pairs.items
