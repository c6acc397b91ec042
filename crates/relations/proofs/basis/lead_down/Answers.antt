use Rattle.std.proofs.Common.{[], arith}
use Rattle.presentations.specs.declared.read.Relation.{Relation}
use Rattle.relations.specs.Bases.{IsReducible, Precedes}
use Rattle.relations.proofs.Each.{each-next}
use Rattle.relations.proofs.basis.lead_down.Goals as goal

abbrev none : Relation
none = record { left = []; right = [] }

pub loop-relation-preserved : goal.loop-relation-preserved
loop-relation-preserved c = record {
  falls =
      each-next (λ (r : Relation). Precedes c.args.letters r.right r.left) c.args.relations.now
      c.loop-relation.relation-index none c.loop-relation-test.true c.loop-relation.invariant.falls
      (c.comes_before.ensures c.if-not-comes_before.false);
  irreducible =
      each-next (λ (r : Relation). IsReducible c.args.letters c.args.relations.now r.right → ⊥)
      c.args.relations.now c.loop-relation.relation-index none c.loop-relation-test.true
      c.loop-relation.invariant.irreducible
      (λ h. let impossible = c.if-is_reducible.ensures.1 h in cc);
}

pub returns-clause-irreducible : goal.returns-clause-irreducible
returns-clause-irreducible c = λ t k d lt.
    c.loop-relation.invariant.irreducible k d (omega (arith, lt, c.loop-relation-test.false))
