use Rattle.std.proofs.lemmas.List.Elements.{All-push}
use Rattle.relations.specs.Presented.{AreRelatedWords}
use Rattle.relations.proofs.Rewritings.{follow-trans, given-related, oriented-related}
use Rattle.relations.proofs.rewriting.completed.Goals as goal

pub loop-relation-preserved : goal.loop-relation-preserved
loop-relation-preserved g c =
    let n = c.args.letters in
    let relations = c.args.relations.now in
    rw c.in_ok-push.ensures
    (All-push (λ r. AreRelatedWords n relations r.left r.right) c.loop-relation.rules.relations.items
    c.oriented.result c.loop-relation.invariant
    (oriented-related n relations c.oriented.result _ _ c.oriented.ensures
    (given-related n relations c.loop-relation.relation-index _ c.loop-relation-test.true)))

pub loop-j-preserved : goal.loop-j-preserved
loop-j-preserved g c =
    follow-trans c.args.letters c.args.relations.now c.loop-j.rules.relations.items
    c.learn.new.rules.relations.items
    c.loop-j.invariant c.in_ok-learn.ensures
