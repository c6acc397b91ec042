use Rattle.dominance_text.proofs.TextLaws.{one_value}
use Rattle.dominance_text.proofs.texts_say_one.Goals as goal

pub returns-clause-value : goal.returns-clause-value
returns-clause-value g = one_value
