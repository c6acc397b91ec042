use Rattle.std.proofs.Common.{◌≡◌}
use Rattle.heap_options.specs.Walks.{rest, stages_left}
use Rattle.heap_options.proofs.walk.Walk.next.Given as goal

abbrev pub invariant-loop-self : goal.invariant-loop-self
invariant-loop-self l = rest l.fn.code l.self ≡ rest l.fn.code l.initial.self

abbrev pub decreases-loop-self : goal.decreases-loop-self
decreases-loop-self l = stages_left l.fn.code l.self
