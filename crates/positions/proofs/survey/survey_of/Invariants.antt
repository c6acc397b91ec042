use Rattle.std.proofs.Common.{length}
use Rattle.positions.proofs.Words.{IsSurveyed}
use Rattle.positions.proofs.survey.survey_of.Given as goal

abbrev pub invariant-loop-size : goal.invariant-loop-size
invariant-loop-size l = IsSurveyed l.text l.rest l.survey

abbrev pub decreases-loop-size : goal.decreases-loop-size
decreases-loop-size l = length l.rest
