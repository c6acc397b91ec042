-- Pairs, trials and kept values whose sets are seen as finite sets, however many lanes they have.
use Rattle.std.specs.Ordering.{nat_cmp}
use Rattle.std.specs.FinSet as set
use Rattle.transition_algebra.specs.declared.pair.Pair as pairs
use Rattle.transition_algebra.specs.declared.trial.Trial as trials
use Rattle.transition_algebra.specs.declared.cut_values.CutValues as kept

abbrev pub Pair : Type 0
Pair = pairs.Pair (set.FinSet nat_cmp)

abbrev pub Trial : Type 0
Trial = trials.Trial (set.FinSet nat_cmp)

abbrev pub CutValues : Type 0 → Type 0
CutValues A = kept.CutValues (set.FinSet nat_cmp) A
