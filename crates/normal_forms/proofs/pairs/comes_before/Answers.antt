use Rattle.std.proofs.Common.{◌≡◌, ◌∙◌, sym, inl, inr, arith}
use Rattle.std.specs.Prelude.{slice_index}
use Rattle.std.proofs.lemmas.Bool.{cases_lt, ltb-true, lt-ltb}
use Rattle.presentations.specs.declared.TheConstants.{LETTERS}
use Rattle.relations.specs.Bases.{letter_count}
use Rattle.normal_forms.proofs.Sides.{not-before}
use Rattle.normal_forms.proofs.pairs.comes_before.Goals as goal

pub returns-then-v-i : goal.returns-then-v-i
returns-then-v-i c =
    let v = c.args.v.now in
    let w = c.args.w.now in
    let i = c.loop-i.i in
    let count : letter_count LETTERS v ≡ letter_count LETTERS w =
    sym c.letter_count-less.ensures ∙ c.if-less-more.false ∙ c.letter_count-more.ensures
    in (
      λ t. inr (
        count,
        (i, c.loop-i-test.true, ltb-true (slice_index w i) (slice_index v i) t, c.loop-i.invariant),
      ),
      λ before.
          elim (cases_lt (slice_index w i) (slice_index v i)) [
            | inl more ↦ lt-ltb (slice_index w i) (slice_index v i) more
            | inr less ↦
                absurd (not-before LETTERS v w i count c.loop-i.invariant
                (omega (arith, less, c.if-v-i.true)) before)
          ],
    )
