use Rattle.std.proofs.Common.{◌≡◌, take}
use Rattle.descriptions.proofs.presenting.begins.Given as goal

abbrev pub invariant-loop-i : goal.invariant-loop-i
invariant-loop-i l = take l.i l.all ≡ take l.i l.relations
