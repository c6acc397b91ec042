use Rattle.std.proofs.Common.{[], arith, refl}
use Rattle.std.specs.Prelude.{Contains}
use Rattle.presentations.specs.declared.read.Relation.{Relation}
use Rattle.relations.proofs.Each.{each-next}
use Rattle.relations.proofs.listing.lead_to.Goals as goal

pub loop-relation-preserved : goal.loop-relation-preserved
loop-relation-preserved c =
    each-next
    (λ (r : Relation). (Contains c.args.words.now r.left → ⊥) × Contains c.args.words.now r.right)
    c.args.relations.now c.loop-relation.relation-index (record { left = []; right = [] })
    c.loop-relation-test.true c.loop-relation.invariant
    ((λ h. let impossible = c.if-has_word.ensures.1 h in cc), c.if-not-has_word.ensures.0 refl)

pub returns : goal.returns
returns c = λ t k d lt. c.loop-relation.invariant k d (omega (arith, lt, c.loop-relation-test.false))
