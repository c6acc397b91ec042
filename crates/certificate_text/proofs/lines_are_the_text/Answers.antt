use Rattle.certificate_text.proofs.Same.{from_lines, to_lines}
use Rattle.certificate_text.proofs.lines_are_the_text.Goals as goal

pub returns-clause-text : goal.returns-clause-text
returns-clause-text g = from_lines

pub returns-clause-lines : goal.returns-clause-lines
returns-clause-lines g = to_lines
