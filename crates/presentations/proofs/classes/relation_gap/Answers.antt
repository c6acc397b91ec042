use Rattle.std.proofs.Common.{sym, ◌∙◌, inl, inr, arith}
use Rattle.std.proofs.lemmas.Bool.{cases_eq}
use Rattle.presentations.proofs.Merges.{gap-from}
use Rattle.presentations.proofs.classes.relation_gap.Goals as goal

pub returns-then-x-y-clause-gap : goal.returns-then-x-y-clause-gap
returns-then-x-y-clause-gap g c =
    gap-from c.requires c.places-left.ensures.left_in c.places-left.ensures.right_in c.parent-x.ensures.value
    c.parent-y.ensures.value c.parent-x.ensures.down c.parent-y.ensures.down
    c.parent-x.ensures.related c.parent-y.ensures.related c.places-left.ensures.related
    c.if-x-y.true

pub loop-i-preserved : goal.loop-i-preserved
loop-i-preserved g c = λ k d lt. elim (cases_eq k c.loop-i.i) [
  | inl same ↦
      rw (same, ← c.places-left.ensures.left d, ← c.places-left.ensures.right d)
      (sym c.parent-x.ensures.value ∙ c.if-x-y.false ∙ c.parent-y.ensures.value)
  | inr other ↦ c.loop-i.invariant k d (omega (arith, other))
]
