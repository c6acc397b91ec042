use Rattle.transition_algebra.specs.Pairs.{covers}
use Rattle.pair_closure.proofs.ChainLaws.{IsAt}
use Rattle.pair_closure.proofs.members.Members.covers_any.Given as goal

abbrev pub invariant-loop-at : goal.invariant-loop-at
invariant-loop-at g l = IsAt l.self-inside.list.items l.x.value (λ p. covers l.x p) l.at

abbrev pub decreases-loop-at : goal.decreases-loop-at
decreases-loop-at g l = l.at
