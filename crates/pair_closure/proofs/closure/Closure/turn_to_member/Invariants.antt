use Rattle.std.proofs.Common.{◌≡◌, length}
use Rattle.pair_closure.specs.Calls.{ended_or_kept}
use Rattle.pair_closure.proofs.Calls.{SoFar}
use Rattle.pair_closure.proofs.closure.Closure.turn_to_member.Given as goal

abbrev pub invariant-loop-turn : goal.invariant-loop-turn
invariant-loop-turn g l = record {
  so_far : SoFar (ended_or_kept l.initial.self) l.initial.self l._turn l.self;
  same : length l.self.state.members ≡ length l.initial.self.state.members;
}
