use Rattle.std.proofs.Common.{length}
use Rattle.desk.specs.Views.{steps_of}
use Rattle.desk.proofs.ReadLines.{IsRead}
use Rattle.desk.proofs.script.read_script.Given as goal

abbrev pub invariant-loop-rest : goal.invariant-loop-rest
invariant-loop-rest g l = IsRead l.fn.script l.rest (steps_of l.steps.items)

abbrev pub decreases-loop-rest : goal.decreases-loop-rest
decreases-loop-rest g l = length l.rest
