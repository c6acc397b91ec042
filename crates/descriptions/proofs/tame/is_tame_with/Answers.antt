use Rattle.std.proofs.Common.{◌≡◌, true, false, inl, inr, arith, subst}
use Rattle.std.proofs.lemmas.Bool.{cases_eq}
use Rattle.descriptions.specs.Tame.{IsTameBy}
use Rattle.descriptions.proofs.tame.is_tame_with.Goals as goal

pub loop-e-preserved : goal.loop-e-preserved
loop-e-preserved c = λ e lt t. elim (cases_eq e c.loop-e.e) [
  | inl same ↦
      let wrong : false ≡ true =
      c.if-is_tame_by.ensures.1 (subst (IsTameBy c.args.certified.now c.args.a) same t)
      in
      cc
  | inr other ↦ c.loop-e.invariant e (omega (arith, other)) t
]
