use Rattle.std.proofs.Common.{◌≡◌, ◌*◌, length, subst, arith, rules}
use Rattle.presented_tables.specs.Rows.{AreRows}
use Rattle.presented_tables.proofs.Filled.{one-more, all-filled}
use Rattle.class_tables.specs.Tables.{IsNext}
use Rattle.class_tables.proofs.rows.nexts.Goals as goal

pub loop-k-preserved : goal.loop-k-preserved
loop-k-preserved g c =
    one-more (IsNext c.args.p.now c.args.l.now c.args.s.now) c.len-width.result c.loop-k.k 0 c.in-Some-next.v
    c.loop-k.nexts.items _ c.row_and_place-w.result.0 c.row_and_place-w.result.1 c.loop-k.invariant
    c.in_ok-push.ensures.items c.row_and_place-w.ensures.row c.row_and_place-w.ensures.place c.in-Some-next.ensures

pub returns-clause-nexts : goal.returns-clause-nexts
returns-clause-nexts g c =
    let same : c.len-count.result ≡ length c.args.l.now.labels = search rules in
    let wide : c.len-width.result ≡ length c.args.s.now.sizes = search rules in
    let full : c.loop-k.k ≡ c.len-count.result * c.len-width.result = grind arith in
    subst (λ n. AreRows (IsNext c.args.p.now c.args.l.now c.args.s.now) n (length c.args.s.now.sizes) 0 c.loop-k.nexts.items) same
    (subst (λ n. AreRows (IsNext c.args.p.now c.args.l.now c.args.s.now) c.len-count.result n 0 c.loop-k.nexts.items) wide
    (all-filled (IsNext c.args.p.now c.args.l.now c.args.s.now) c.len-count.result c.len-width.result c.loop-k.k 0 c.loop-k.nexts.items full
    c.loop-k.invariant))
