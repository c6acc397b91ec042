use Rattle.std.proofs.Common.{◌≡◌}
use Rattle.monoid_table.specs.Turns.{turns}
use Rattle.monoid_table.proofs.job.TableJob.work.Given as goal

abbrev pub invariant-loop-left : goal.invariant-loop-left
invariant-loop-left g l = turns l.left l.self ≡ turns l.units l.initial.self

abbrev pub decreases-loop-left : goal.decreases-loop-left
decreases-loop-left g l = l.left
