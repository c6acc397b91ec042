use Rattle.std.proofs.Common.{◌≡◌, ◌-◌}
use Rattle.std.specs.List.{flat_map, range_with_len}
use Rattle.heap_options.specs.Options.{triples_at}
use Rattle.transition_algebra.specs.Heaps.{largest_part}
use Rattle.transition_algebra.specs.Trials.{with_left, cut_values}
use Rattle.transition_algebra.specs.declared.cut_values.Cut.TheVariants.{InThree}
use Rattle.transition_algebra.proofs.cut_values.values_of_triples.Given as goal

abbrev pub invariant-loop-first : goal.invariant-loop-first
invariant-loop-first g l =
    with_left l.scene.table.now l.scene.phi.now l.all
    (flat_map (triples_at l.whole (largest_part l.scene.phi.now))
    (range_with_len l.first (l.first-end - l.first)))
    ≡ cut_values InThree l.scene.table.now l.scene.phi.now l.whole
