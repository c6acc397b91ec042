use Rattle.std.proofs.Common.{rules}
use Rattle.solve_command.proofs.told.text_with.Goals as goal

pub returns : goal.returns
returns c = λ told. (c.args.line.now, told, search rules)
