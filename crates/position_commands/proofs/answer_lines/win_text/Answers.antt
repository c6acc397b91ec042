use Rattle.std.proofs.Common.{rules}
use Rattle.position_commands.proofs.answer_lines.win_text.Goals as goal

pub returns-in-Two : goal.returns-in-Two
returns-in-Two c = search rules
