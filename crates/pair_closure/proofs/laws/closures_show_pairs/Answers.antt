use Rattle.transition_algebra.specs.Pairs.{one}
use Rattle.pair_closure.proofs.Runs.{reached_turns}
use Rattle.pair_closure.proofs.Positions.{shows, minimal}
use Rattle.pair_closure.proofs.laws.closures_show_pairs.Goals as goal

pub returns-clause-shows : goal.returns-clause-shows
returns-clause-shows c =
    λ table heaps limit units lawful inside.
    shows _ (reached_turns table heaps limit units lawful (λ k l. inside k one l))

pub returns-clause-minimal : goal.returns-clause-minimal
returns-clause-minimal c =
    λ table heaps limit units lawful inside.
    minimal _ (reached_turns table heaps limit units lawful (λ k l. inside k one l))
