use Rattle.std.proofs.Common.{get_or}
use Rattle.pair_closure.specs.Turns.{blank_held}
use Rattle.pair_closure.proofs.Words.{Walking}
use Rattle.pair_closure.proofs.closure.Closure.word.Given as goal

abbrev pub invariant-loop-at : goal.invariant-loop-at
invariant-loop-at g l =
    Walking l.self.state (get_or l.self.state.held l.i blank_held).place l.at l.word

abbrev pub decreases-loop-at : goal.decreases-loop-at
decreases-loop-at g l = l.at
