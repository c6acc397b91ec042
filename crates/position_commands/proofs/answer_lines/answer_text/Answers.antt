use Rattle.std.proofs.Common.{rules}
use Rattle.position_commands.proofs.answer_lines.answer_text.Goals as goal

pub returns-in-Lost : goal.returns-in-Lost
returns-in-Lost c = search rules
