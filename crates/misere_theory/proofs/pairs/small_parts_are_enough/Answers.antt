use Rattle.misere_theory.proofs.SmallParts.{enough, small_or_earlier}
use Rattle.misere_theory.proofs.pairs.small_parts_are_enough.Goals as goal

pub returns-clause-values : goal.returns-clause-values
returns-clause-values g M code c k start period ok past monoid phi_in n H counts o =
    enough M code c k start period ok past n counts monoid phi_in H o

pub returns-clause-first : goal.returns-clause-first
returns-clause-first g M code c k start period ok past laws n H counts o rising =
    small_or_earlier M code c k start period ok past n counts laws H o rising
