use Rattle.dominance_text.proofs.TextLaws.{said_takes, spelled_takes, spelled_again}
use Rattle.dominance_text.proofs.reading_is_spelling.Goals as goal

pub returns-clause-ranges : goal.returns-clause-ranges
returns-clause-ranges g = λ b c rest e. (said_takes b c rest e).1

pub returns-clause-takes : goal.returns-clause-takes
returns-clause-takes g = spelled_takes

pub returns-clause-again : goal.returns-clause-again
returns-clause-again g = spelled_again
