use Rattle.transition_algebra.specs.Pairs.{covers}
use Rattle.pair_closure.proofs.ChainLaws.{IsAt}
use Rattle.pair_closure.proofs.members.Members.any_covers.Given as goal

abbrev pub invariant-loop-at : goal.invariant-loop-at
invariant-loop-at g l = IsAt l.self-inside.list.items l.x.value (λ p. covers p l.x) l.at

abbrev pub decreases-loop-at : goal.decreases-loop-at
decreases-loop-at g l = l.at
