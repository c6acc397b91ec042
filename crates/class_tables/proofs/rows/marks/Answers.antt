use Rattle.std.proofs.Common.{◌≡◌, ◌*◌, length, subst, arith, rules, true}
use Rattle.presented_tables.specs.Rows.{AreRows}
use Rattle.presented_tables.proofs.Filled.{one-more, all-filled}
use Rattle.class_tables.specs.Tables.{IsMark}
use Rattle.class_tables.proofs.rows.marks.Goals as goal

pub loop-k-preserved : goal.loop-k-preserved
loop-k-preserved g c =
    one-more (IsMark c.args.p.now c.args.l.now c.args.s.now) c.len-width.result c.loop-k.k true c.in-Some-mark.bad
    c.loop-k.marks.items _ c.row_and_place-q.result.0 c.row_and_place-q.result.1 c.loop-k.invariant
    c.in_ok-push.ensures.items c.row_and_place-q.ensures.row c.row_and_place-q.ensures.place c.in-Some-mark.ensures

pub returns-clause-marks : goal.returns-clause-marks
returns-clause-marks g c =
    let same : c.len-count.result ≡ length c.args.l.now.images = search rules in
    let wide : c.len-width.result ≡ length c.args.s.now.sizes = search rules in
    let full : c.loop-k.k ≡ c.len-count.result * c.len-width.result = grind arith in
    subst (λ n. AreRows (IsMark c.args.p.now c.args.l.now c.args.s.now) n (length c.args.s.now.sizes) true c.loop-k.marks.items) same
    (subst (λ n. AreRows (IsMark c.args.p.now c.args.l.now c.args.s.now) c.len-count.result n true c.loop-k.marks.items) wide
    (all-filled (IsMark c.args.p.now c.args.l.now c.args.s.now) c.len-count.result c.len-width.result c.loop-k.k true c.loop-k.marks.items full
    c.loop-k.invariant))
