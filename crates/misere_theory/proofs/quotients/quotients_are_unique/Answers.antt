use Rattle.misere_theory.specs.Kinds.{IsHeapIn}
use Rattle.misere_theory.proofs.Classes.{partner, same_quotient}
use Rattle.misere_theory.proofs.quotients.quotients_are_unique.Goals as goal

pub returns : goal.returns
returns g M code c d rc rd = (
  partner (IsHeapIn M) code c d rc rd,
  partner (IsHeapIn M) code d c rd rc,
  same_quotient (IsHeapIn M) code c d rc rd,
)
