use Rattle.std.proofs.Common.{◌<◌, ℕ}
use Rattle.presentations.specs.declared.TheConstants.{LETTERS}
use Rattle.normal_forms.specs.Forms.{IsStandard}
use Rattle.normal_forms.specs.Known.{known_at}
use Rattle.normal_forms.proofs.remembering.are_standard.Given as goal

abbrev pub invariant-loop-k : goal.invariant-loop-k
invariant-loop-k g l = (j : ℕ) → j < l.k → IsStandard LETTERS l.rules (known_at l.elements j)
