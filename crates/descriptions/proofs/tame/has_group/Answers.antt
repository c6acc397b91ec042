use Rattle.std.proofs.Common.{◌≡◌, true, false, inl, inr, arith, subst}
use Rattle.std.proofs.lemmas.Bool.{cases_eq}
use Rattle.descriptions.specs.Tame.{IsTameBy}
use Rattle.descriptions.proofs.tame.has_group.Goals as goal

pub loop-a-preserved : goal.loop-a-preserved
loop-a-preserved c = λ a lt e t. elim (cases_eq a c.loop-a.a) [
  | inl same ↦
      let wrong : false ≡ true =
      c.if-is_tame_with.ensures.1
      (e, subst (λ k. IsTameBy c.args.certified.now k e) same t)
      in
      cc
  | inr other ↦ c.loop-a.invariant a (omega (arith, other)) e t
]
