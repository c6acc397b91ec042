use Rattle.certificate_text.proofs.Whole.{one_value, no_beginning}
use Rattle.certificate_text.proofs.spellings_are_unique.Goals as goal

pub returns-clause-value : goal.returns-clause-value
returns-clause-value g = one_value

pub returns-clause-beginning : goal.returns-clause-beginning
returns-clause-beginning g = no_beginning
