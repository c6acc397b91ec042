use Rattle.std.proofs.Common.{◌<◌, ℕ}
use Rattle.relations.specs.Bases.{LeadsOn}
use Rattle.relations.proofs.basis.leads_on.Given as goal

abbrev pub invariant-loop-i : goal.invariant-loop-i
invariant-loop-i l = (i : ℕ) → i < l.i → LeadsOn l.letters l.words l.relations l.word i
