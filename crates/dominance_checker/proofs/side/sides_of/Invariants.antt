use Rattle.std.proofs.Common.{◌≡◌, ◌++◌, map}
use Rattle.heap_options.specs.Options.{options_of}
use Rattle.dominance_checker.specs.Sides.{side_by}
use Rattle.dominance_checker.proofs.side.sides_of.Given as goal

abbrev pub invariant-loop-left : goal.invariant-loop-left
invariant-loop-left g l =
    (l.yielded ++ l.left-iterator ≡ options_of l.code l.n)
    × (l.sides.items ≡ map (side_by l.s l.ranks) l.yielded)
