use Rattle.std.proofs.Common.{◌<◌, ℕ, List}
use Rattle.std.specs.Prelude.{slice_index_or}
use Rattle.presented_forms.specs.Form.{MayHold}
use Rattle.presented_forms.proofs.portion.stands_for_standard.Given as goal

abbrev pub invariant-loop-k : goal.invariant-loop-k
invariant-loop-k l = (j : ℕ) (d : List ℕ × List ℕ) → j < l.k
    → MayHold l.cycles (slice_index_or l.rules j d).0 l.word → ⊥
