use Rattle.std.proofs.Common.{[]}
use Rattle.presentations.specs.declared.read.Relation.{Relation}
use Rattle.relations.specs.Bases.{Divides}
use Rattle.relations.proofs.Each.{each-next}
use Rattle.relations.proofs.basis.is_reducible.Goals as goal

pub loop-relation-preserved : goal.loop-relation-preserved
loop-relation-preserved c =
    each-next (λ (r : Relation). Divides c.args.letters r.left c.args.word.now → ⊥)
    c.args.relations.now c.loop-relation.relation-index (record { left = []; right = [] })
    c.loop-relation-test.true c.loop-relation.invariant
    (λ h. let impossible = c.if-divides.ensures.1 h in cc)
