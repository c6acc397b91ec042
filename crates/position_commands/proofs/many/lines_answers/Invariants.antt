use Rattle.std.proofs.Common.{length}
use Rattle.command_results.proofs.LineLaws.{Answered}
use Rattle.command_results.specs.Lines.{AnswersLines}
use Rattle.position_commands.specs.Many.{AnswersLine}
use Rattle.position_commands.proofs.many.lines_answers.Given as goal

abbrev pub invariant-loop-rest : goal.invariant-loop-rest
invariant-loop-rest l =
    Answered (AnswersLines (AnswersLine l.quotient)) l.fn.lines l.rest l.text.items l.succeeds

abbrev pub decreases-loop-rest : goal.decreases-loop-rest
decreases-loop-rest l = length l.rest
