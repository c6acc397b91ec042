use Rattle.std.proofs.Common.{inl, inr, arith, refl, sym, subst}
use Rattle.std.specs.Prelude.{Contains}
use Rattle.std.proofs.lemmas.Bool.{cases_eq}
use Rattle.relations.proofs.listing.has_all.Goals as goal

pub loop-x-preserved : goal.loop-x-preserved
loop-x-preserved c = λ x lt. elim (cases_eq x c.loop-x.x) [
  | inl same ↦ subst (Contains c.args.listing.now) (sym same) (c.if-not-has.ensures refl)
  | inr other ↦ c.loop-x.invariant x (omega (arith, other))
]
