use Rattle.transition_algebra.proofs.Every.{every_heap}
use Rattle.transition_algebra.proofs.laws.pairs_show_every_heap.Goals as goal

pub returns : goal.returns
returns g = every_heap
