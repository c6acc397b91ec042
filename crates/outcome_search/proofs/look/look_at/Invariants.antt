use Rattle.std.proofs.Common.{◌≡◌, ◌++◌, slice_index}
use Rattle.heap_options.specs.Options.{options_of}
use Rattle.outcome_search.proofs.Seen.{IsOn}
use Rattle.outcome_search.proofs.look.look_at.Given as goal

abbrev pub invariant-loop-left : goal.invariant-loop-left
invariant-loop-left g l =
    (l.yielded ++ l.left-iterator ≡ options_of l.code (slice_index l.position l.at))
    × IsOn l.memo l.position l.at l.yielded l.seen
