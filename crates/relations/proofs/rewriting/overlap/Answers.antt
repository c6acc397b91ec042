use Rattle.std.proofs.Common.{arith, subst}
use Rattle.relations.specs.Presented.{IsRewritten}
use Rattle.relations.proofs.Rewritings.{rewritten-related, oriented-related, forked-related}
use Rattle.relations.proofs.rewriting.overlap.Goals as goal

pub returns : goal.returns
returns g c =
    let n = c.args.letters in
    let rules = c.args.rules.now.relations in
    let both = c.join-both.result in
    oriented-related n rules.items c.oriented.result c.reduced-left.result
    c.reduced-right.result c.oriented.ensures
    (forked-related n rules.items both c.in_ok-left.left c.in_ok-right.right
    c.reduced-left.result c.reduced-right.result
    (rewritten-related n rules.items c.args.i c.index.result.now both c.in_ok-left.left
    (omega (arith, c.requires.i_in, rules.ok.0))
    (subst (λ r. IsRewritten n r both c.in_ok-left.left) c.index.ensures
    c.in_ok-left.ensures))
    (rewritten-related n rules.items c.args.j c.index-2.result.now both
    c.in_ok-right.right (omega (arith, c.requires.j_in, rules.ok.0))
    (subst (λ r. IsRewritten n r both c.in_ok-right.right) c.index-2.ensures
    c.in_ok-right.ensures)) c.reduced-left.ensures c.reduced-right.ensures)
