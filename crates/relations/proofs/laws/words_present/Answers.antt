use Rattle.relations.proofs.WordLaws.{words-present}
use Rattle.relations.proofs.laws.words_present.Goals as goal

pub returns : goal.returns
returns c = λ table elements pairs word m within hold are.
    words-present table elements pairs m within word are hold
