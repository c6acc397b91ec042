use Rattle.std.proofs.Common.{◌≡◌, ◌-◌}
use Rattle.heap_options.specs.Options.{splits}
use Rattle.transition_algebra.specs.Trials.{with_left, cut_values}
use Rattle.transition_algebra.specs.declared.cut_values.Cut.TheVariants.{InTwo}
use Rattle.transition_algebra.proofs.cut_values.values_of_splits.Given as goal

abbrev pub invariant-loop-part : goal.invariant-loop-part
invariant-loop-part g l =
    with_left l.scene.table.now l.scene.phi.now l.all (splits l.whole l.part (l.part-end - l.part))
    ≡ cut_values InTwo l.scene.table.now l.scene.phi.now l.whole
