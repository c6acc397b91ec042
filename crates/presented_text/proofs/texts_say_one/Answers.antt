use Rattle.presented_text.proofs.TextLaws.{one_value}
use Rattle.presented_text.proofs.texts_say_one.Goals as goal

pub returns-clause-value : goal.returns-clause-value
returns-clause-value c = one_value
