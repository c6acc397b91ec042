use Rattle.std.proofs.Common.{ℕ, ◌<◌, ◌≤◌, length}
use Rattle.presentations.specs.declared.TheConstants.{LETTERS}
use Rattle.presented_claims.specs.Led.{RunsOn}
use Rattle.class_tables.specs.Separated.{HasOwn}
use Rattle.class_tables.proofs.separating.have_own.Given as goal

abbrev pub invariant-loop-j : goal.invariant-loop-j
invariant-loop-j l = (k : ℕ) → k < l.j → length l.folds ≤ LETTERS → RunsOn l.folds l.a k → HasOwn l.folds l.a l.led k
