use Rattle.std.proofs.Common.{◌-◌, ◌<◌, ℕ, List}
use Rattle.std.specs.Prelude.{slice_index_or}
use Rattle.presented_forms.specs.Form.{ComesEarlier}
use Rattle.presented_forms.proofs.basis.are_in_order.Given as goal

abbrev pub invariant-loop-k : goal.invariant-loop-k
invariant-loop-k l = (j : ℕ) (d : List ℕ × List ℕ) → 0 < j → j < l.k
    → ComesEarlier (slice_index_or l.rules (j - 1) d).0 (slice_index_or l.rules j d).0
