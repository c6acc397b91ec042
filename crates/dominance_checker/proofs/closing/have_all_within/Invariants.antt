use Rattle.std.proofs.Common.{take}
use Rattle.std.specs.List.{All}
use Rattle.dominance_checker.specs.States.{HasStatesWithin}
use Rattle.dominance_checker.proofs.closing.have_all_within.Given as goal

abbrev pub invariant-loop-k : goal.invariant-loop-k
invariant-loop-k l = All (HasStatesWithin l.kinds l.kept) (take l.k-index l.kept)
