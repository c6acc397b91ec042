use Rattle.std.proofs.Common.{arith, subst}
use Rattle.relations.specs.Presented.{IsRewritten}
use Rattle.relations.proofs.Rewritings.{rewritten-related}
use Rattle.relations.proofs.rewriting.step.Goals as goal

pub returns-in-Some : goal.returns-in-Some
returns-in-Some g c =
    let n = c.args.letters in
    let rules = c.args.rules.now.relations in
    rewritten-related n rules.items c.loop-k.k c.index.result.now c.args.word.now
    c.in-Some.changed (omega (arith, c.loop-k-test.true, c.len-k-end.ensures, rules.ok.0))
    (subst (λ r. IsRewritten n r c.args.word.now c.in-Some.changed) c.index.ensures
    c.in-Some.ensures)
