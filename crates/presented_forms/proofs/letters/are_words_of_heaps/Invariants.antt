use Rattle.std.proofs.Common.{◌<◌, ℕ}
use Rattle.std.specs.Prelude.{slice_index}
use Rattle.presented_forms.specs.Form.{IsNamedBy}
use Rattle.presented_forms.proofs.letters.are_words_of_heaps.Given as goal

abbrev pub invariant-loop-i : goal.invariant-loop-i
invariant-loop-i g l = (j : ℕ) → j < l.i → IsNamedBy l.text j (slice_index l.text.letters j)
