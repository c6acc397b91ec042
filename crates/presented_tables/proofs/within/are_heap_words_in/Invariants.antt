use Rattle.std.proofs.Common.{◌≡◌, ◌<◌, ℕ, None, length}
use Rattle.std.specs.Prelude.{slice_index_or}
use Rattle.presentations.specs.declared.TheConstants.{LETTERS}
use Rattle.normal_forms.specs.Forms.{IsIn}
use Rattle.presented_claims.specs.Claims.{word_or_one}
use Rattle.presented_tables.proofs.within.are_heap_words_in.Given as goal

abbrev pub invariant-loop-i : goal.invariant-loop-i
invariant-loop-i l = (j : ℕ) → j < l.i
    → (length (word_or_one (slice_index_or l.words j None)) ≡ LETTERS)
    × IsIn l.letters (word_or_one (slice_index_or l.words j None))
