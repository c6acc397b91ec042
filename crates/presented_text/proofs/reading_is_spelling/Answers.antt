use Rattle.presented_text.proofs.TextLaws.{spelled_takes, spelled_again}
use Rattle.presented_text.proofs.reading_is_spelling.Goals as goal

pub returns-clause-takes : goal.returns-clause-takes
returns-clause-takes c = spelled_takes

pub returns-clause-again : goal.returns-clause-again
returns-clause-again c = spelled_again
