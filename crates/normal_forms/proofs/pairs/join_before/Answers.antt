use Rattle.std.proofs.Common.{◌∙◌, sym, inl, inr, arith}
use Rattle.std.proofs.lemmas.Bool.{cases_eq}
use Rattle.normal_forms.proofs.pairs.join_before.Goals as goal

pub loop-k-preserved : goal.loop-k-preserved
loop-k-preserved g c = λ j d lt.
    elim (cases_eq j c.loop-k.k) [
      | inl same ↦ rw same (c.pair_joins.ensures.joins c.if-not-pair_joins.false d)
      | inr other ↦ c.loop-k.invariant j d (omega (arith, lt, other))
    ]

pub returns-then-not-pair_joins-clause-fails : goal.returns-then-not-pair_joins-clause-fails
returns-then-not-pair_joins-clause-fails g c = λ are.
    sym c.if-not-pair_joins.true ∙ c.pair_joins.ensures.fails are
