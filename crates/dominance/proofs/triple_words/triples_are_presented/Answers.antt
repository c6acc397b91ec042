use Rattle.dominance.proofs.Normal.{presented, reached as reaches}
use Rattle.dominance.proofs.Values.{word_element}
use Rattle.dominance.proofs.triple_words.triples_are_presented.Goals as goal

pub returns : goal.returns
returns g = record { same = presented; elements = word_element; reached = reaches }
