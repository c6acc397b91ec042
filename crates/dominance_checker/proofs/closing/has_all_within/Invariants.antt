use Rattle.std.proofs.Common.{take}
use Rattle.std.specs.List.{All}
use Rattle.dominance_checker.specs.States.{HasStateWithin}
use Rattle.dominance_checker.proofs.closing.has_all_within.Given as goal

abbrev pub invariant-loop-h : goal.invariant-loop-h
invariant-loop-h l = All (HasStateWithin l.kept l.k) (take l.h-index l.kinds)
