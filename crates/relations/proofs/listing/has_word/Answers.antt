use Rattle.std.proofs.Common.{◌≢◌, ◌∙◌, [], inl, inr, arith, sym}
use Rattle.std.specs.Prelude.{slice_index_or}
use Rattle.std.specs.Cmp.Lexicographic.{other_text}
use Rattle.std.proofs.lemmas.Bool.{cases_eq}
use Rattle.std.proofs.lemmas.List.{get_or_default}
use Rattle.relations.proofs.listing.has_word.Goals as goal

pub loop-other-preserved : goal.loop-other-preserved
loop-other-preserved c = λ k d lt same.
    let words = c.args.words.now in
    let word = c.args.word.now in
    let i = c.loop-other.other-index in
    let differs : slice_index_or words i [] ≢ word =
    other_text (slice_index_or words i []) word (sym c.if-eq.false ∙ c.eq.ensures)
    in
    elim (cases_eq k i) [
      | inl is ↦ differs
          (get_or_default words i [] d c.loop-other-test.true ∙ rw is at same)
      | inr other ↦ c.loop-other.invariant k d (omega (arith, other)) same
    ]
