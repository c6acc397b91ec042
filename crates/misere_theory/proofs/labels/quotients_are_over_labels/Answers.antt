use Rattle.misere_theory.specs.Kinds.{IsHeapIn}
use Rattle.misere_theory.proofs.Rules.{over_labels, of_labels}
use Rattle.misere_theory.proofs.labels.quotients_are_over_labels.Goals as goal

pub returns : goal.returns
returns g M code c = (over_labels (IsHeapIn M) code c, of_labels (IsHeapIn M) code c)
