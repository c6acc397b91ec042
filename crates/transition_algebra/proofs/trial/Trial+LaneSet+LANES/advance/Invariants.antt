use Rattle.std.proofs.Common.{◌≡◌, ◌+◌, ◌*◌, ◌<◌, ◌≤◌}
use Rattle.heap_options.specs.Walks.{stages_left}
use Rattle.transition_algebra.specs.Work.{heap_cost}
use Rattle.transition_algebra.specs.Trials.{GoesOn}
use Rattle.transition_algebra.proofs.trial.Trial+LaneSet+LANES.advance.Given as goal

abbrev pub invariant-loop-left : goal.invariant-loop-left
invariant-loop-left g l = record {
  goes_on : GoesOn l.scene l.self l.pairs.items l.cut_values;
  bound : l.self.bound ≡ l.initial.self.bound;
  units : l.self.spent + l.left ≡ l.initial.self.spent + l.initial.left;
  few : l.left ≤ l.initial.left;
  going : l.last < l.initial.self.bound
      → l.initial.self.spent < heap_cost l.scene.code.now l.scene.phi.now
      → l.self.spent < heap_cost l.scene.code.now l.scene.phi.now;
  still : l.last < l.initial.self.walk.heap → l.self ≡ l.initial.self;
}

abbrev pub decreases-loop-left : goal.decreases-loop-left
decreases-loop-left g l = 1000000 * l.left + stages_left l.scene.code.now l.self.walk
