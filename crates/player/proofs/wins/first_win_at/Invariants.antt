use Rattle.std.proofs.Common.{◌≡◌, ◌++◌, get_or}
use Rattle.std.specs.List.{Contains, remove}
use Rattle.misere_theory.specs.Games.{IsP}
use Rattle.heap_options.specs.Options.{options_up_to}
use Rattle.heap_options.specs.Exact.{heaps_of}
use Rattle.heap_options.specs.declared.left.Left.{Left}
use Rattle.player.proofs.wins.first_win_at.Given as goal

abbrev pub invariant-loop-left : goal.invariant-loop-left
invariant-loop-left g l =
    (l.yielded ++ l.left-iterator ≡ options_up_to (g.L.Labelling.code l.by) (get_or l.heaps l.at 0)
    (g.L.Labelling.most l.by (get_or l.heaps l.at 0)))
    × ((M : Left) → Contains l.yielded M
    → IsP (g.L.Labelling.code l.by) (heaps_of M ++ remove l.heaps l.at) → ⊥)
