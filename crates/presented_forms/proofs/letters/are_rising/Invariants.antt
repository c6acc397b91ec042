use Rattle.std.proofs.Common.{◌-◌, ◌<◌, ℕ}
use Rattle.std.specs.Prelude.{slice_index}
use Rattle.presented_forms.proofs.letters.are_rising.Given as goal

abbrev pub invariant-loop-i : goal.invariant-loop-i
invariant-loop-i l = (j : ℕ) → 0 < j → j < l.i
    → slice_index l.numbers (j - 1) < slice_index l.numbers j
