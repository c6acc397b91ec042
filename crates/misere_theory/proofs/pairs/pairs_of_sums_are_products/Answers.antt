use Rattle.misere_theory.specs.Kinds.{IsHeapIn}
use Rattle.misere_theory.proofs.Counting.{kept_in}
use Rattle.misere_theory.proofs.Products.{pair_of_sum}
use Rattle.misere_theory.proofs.pairs.pairs_of_sums_are_products.Goals as goal

pub returns : goal.returns
returns g M code c X Y monoid phi_in p q =
    pair_of_sum (IsHeapIn M) code (kept_in M code) c monoid phi_in X Y p q
