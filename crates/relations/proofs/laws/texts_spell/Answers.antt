use Rattle.relations.proofs.Spelling.{spelled}
use Rattle.relations.proofs.laws.texts_spell.Goals as goal

pub returns : goal.returns
returns c = spelled
