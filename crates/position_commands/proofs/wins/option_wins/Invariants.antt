use Rattle.std.proofs.Common.{◌≡◌, ◌++◌}
use Rattle.std.specs.Prelude.{slice_index}
use Rattle.std.specs.String.{string_bytes}
use Rattle.position_commands.specs.Kinds.{code_of, looks_of}
use Rattle.position_commands.specs.Wins.{AreOptionWins}
use Rattle.position_commands.proofs.wins.option_wins.Given as goal

abbrev pub invariant-loop-left : goal.invariant-loop-left
invariant-loop-left l =
    (l.yielded ++ l.left-iterator ≡ looks_of l.quotient (slice_index l.heaps l.at))
    × AreOptionWins (code_of l.quotient) l.heaps (slice_index l.heaps l.at) l.yielded (string_bytes l.text)
