use Rattle.dominance.proofs.Tested.{predicts}
use Rattle.dominance.proofs.tested_triples_predict.Goals as goal

pub returns : goal.returns
returns g = predicts
