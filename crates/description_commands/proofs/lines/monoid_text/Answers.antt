use Rattle.std.proofs.Common.{arith}
use Rattle.std.proofs.lemmas.Grind.{common_steps}
use Rattle.std.proofs.lemmas.Result.{IfOk-from_err}
use Rattle.description_commands.proofs.lines.monoid_text.Goals as goal

pub returns-in_err-generators : goal.returns-in_err-generators
returns-in_err-generators c = IfOk-from_err _ _ c.from_residual.ensures.0

pub returns-in_err-text : goal.returns-in_err-text
returns-in_err-text c = IfOk-from_err _ _ c.from_residual-in_err-text.ensures.0

pub loop-x-init : goal.loop-x-init
loop-x-init c = grind (arith, common_steps)

pub returns-in_err-row : goal.returns-in_err-row
returns-in_err-row c = IfOk-from_err _ _ c.from_residual-in_err-row.ensures.0

pub returns-in_err-push_str : goal.returns-in_err-push_str
returns-in_err-push_str c = IfOk-from_err _ _ c.from_residual-in_err-push_str.ensures.0

pub loop-x-preserved : goal.loop-x-preserved
loop-x-preserved c = grind (arith, common_steps)
