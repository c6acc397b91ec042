use Rattle.std.proofs.Common.{◌∷◌, [], arith, length-append}
use Rattle.relations.proofs.Rewritings.{follow-self, follow-push}
use Rattle.relations.proofs.rewriting.learn.Goals as goal
use Rattle.relations.proofs.rewriting.learn.Goals.{in-Some+in_ok-push, in_default}

pub loop-i-init : goal.loop-i-init
loop-i-init g c = record {
  follow = follow-self c.args.letters c.args.rules.now.relations.items;
  long = omega arith;
}

pub loop-i-preserved : goal.loop-i-preserved
loop-i-preserved g c =
    elim c.match-overlap.branch [
      | in-Some+in_ok-push w ↦
          rw (w.rules-is, w.in_ok-push.ensures) (record {
            follow =
                follow-push c.args.letters c.args.rules.now.relations.items c.loop-i.rules.relations.items
                w.in-Some.rule c.loop-i.invariant.follow
                w.in-Some.ensures;
            long =
                omega (
                  arith,
                  c.loop-i.invariant.long,
                  length-append c.loop-i.rules.relations.items (w.in-Some.rule ∷ []),
                );
          })
      | in_default w ↦ rw w.rules-is c.loop-i.invariant
    ]
