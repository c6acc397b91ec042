use Rattle.std.proofs.Common.{◌≡◌, Bool, true, false, refl, sym, ◌∙◌, inl, inr, arith, subst}
use Rattle.std.specs.Prelude.{◌||◌, ◌==◌}
use Rattle.std.proofs.lemmas.Bool.{cases_eq}
use mathlib.Core.Bool.{not, beq}
use Rattle.misere_theory.specs.Certificates.{claim_of}
use Rattle.descriptions.proofs.tame.is_portion.Goals as goal

same_from : (a b : Bool) → not (beq a b) ≡ false → a ≡ b
same_from true true e = refl
same_from true false e = cc
same_from false true e = cc
same_from false false e = refl

pub loop-x-preserved : goal.loop-x-preserved
loop-x-preserved c = λ x lt. elim (cases_eq x c.loop-x.x) [
  | inl same ↦
      subst
      (λ k. (claim_of c.args.certified.now).portion k ≡ ((k == c.args.a) || (k == c.args.e)))
      (sym same)
      (sym c.holds.ensures ∙ same_from _ _ c.if-holds-is_either.false ∙ c.is_either.ensures)
  | inr other ↦ c.loop-x.invariant x (omega (arith, other))
]
