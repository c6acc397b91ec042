use Rattle.misere_theory.specs.Kinds.{IsHeapIn}
use Rattle.misere_theory.proofs.Counting.{kept_in}
use Rattle.misere_theory.proofs.PairCounts.{reach_bound}
use Rattle.misere_theory.proofs.pairs.reach_is_bounded.Goals as goal

pub returns : goal.returns
returns g M code c limit monoid phi_in more =
    reach_bound (IsHeapIn M) code (kept_in M code) c monoid phi_in limit more
