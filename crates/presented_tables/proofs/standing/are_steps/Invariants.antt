use Rattle.std.proofs.Common.{ℕ, ◌<◌, length}
use Rattle.presentations.specs.declared.TheConstants.{LETTERS}
use Rattle.presentations.specs.Vectors.{only}
use Rattle.kept_positions.specs.Numbers.{entry}
use Rattle.presented_tables.specs.Elements.{Takes}
use Rattle.presented_tables.proofs.standing.are_steps.Given as goal

abbrev pub invariant-loop-i : goal.invariant-loop-i
invariant-loop-i g l = (k : ℕ) → k < l.i
    → Takes l.p l.e (only LETTERS k 1) l.x (entry l.e.steps (length l.p.letters) l.x k)
