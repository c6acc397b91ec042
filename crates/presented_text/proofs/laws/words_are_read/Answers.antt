use Rattle.presented_text.proofs.WordLaws.{spelled_takes, spelled_again, one_word}
use Rattle.presented_text.proofs.laws.words_are_read.Goals as goal

pub returns-clause-takes : goal.returns-clause-takes
returns-clause-takes c = spelled_takes

pub returns-clause-again : goal.returns-clause-again
returns-clause-again c = spelled_again

pub returns-clause-one : goal.returns-clause-one
returns-clause-one c = one_word
