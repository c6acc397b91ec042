use Rattle.std.proofs.Common.{◌≡◌, ◌+◌, length, sym, subst, arith}
use Rattle.outcome_rule.proofs.Looked.{IsLookBelow, one_more, all_looked}
use Rattle.outcome_rule.proofs.rule.look.Goals as goal

pub loop-k-preserved : goal.loop-k-preserved
loop-k-preserved g c = λ says s.
    let code = c.args.code.now in
    let X = c.args.heaps.now in
    subst (IsLookBelow code says X (c.loop-k.k + 1)) (sym c.joined-found.ensures)
    (one_more code says X c.loop-k.k c.loop-k.found c.in_ok-look_at.field-0 (c.loop-k.invariant says s)
    (c.in_ok-look_at.ensures says s))

pub returns : goal.returns
returns g c = λ says s.
    let e : c.loop-k.k ≡ length c.args.heaps.now = omega arith in
    all_looked c.args.code.now says c.args.heaps.now c.loop-k.found
    (subst (λ n. IsLookBelow c.args.code.now says c.args.heaps.now n c.loop-k.found) e (c.loop-k.invariant says s))
