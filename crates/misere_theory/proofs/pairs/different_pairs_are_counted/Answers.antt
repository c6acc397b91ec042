use Rattle.misere_theory.specs.Kinds.{IsHeapIn}
use Rattle.misere_theory.proofs.Different.{more_from_different}
use Rattle.misere_theory.proofs.pairs.different_pairs_are_counted.Goals as goal

pub returns : goal.returns
returns g M = more_from_different (IsHeapIn M)
