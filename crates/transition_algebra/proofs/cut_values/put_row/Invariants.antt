use Rattle.std.proofs.Common.{◌≡◌, ◌-◌}
use Rattle.heap_options.specs.Options.{row, triples_at}
use Rattle.transition_algebra.specs.Heaps.{largest_part}
use Rattle.transition_algebra.specs.Trials.{with_left}
use Rattle.transition_algebra.proofs.cut_values.put_row.Given as goal

abbrev pub invariant-loop-second : goal.invariant-loop-second
invariant-loop-second g l =
    with_left l.scene.table.now l.scene.phi.now l.all (row l.whole l.first l.second (l.second-end - l.second))
    ≡ with_left l.scene.table.now l.scene.phi.now l.fn.all (triples_at l.whole (largest_part l.scene.phi.now) l.first)
