use Rattle.std.proofs.Common.{◌≡◌, ◌*◌, ◌<◌, length, subst, arith, rules, true}
use Rattle.presented_tables.specs.Rows.{AreRows, IsMark, IsColumnMark}
use Rattle.presented_tables.proofs.Filled.{one-more, all-filled, entry-at}
use Rattle.presented_tables.proofs.rows.marks.Goals as goal

pub loop-k-preserved : goal.loop-k-preserved
loop-k-preserved g c =
    let same : c.len-count.result ≡ length c.args.e.now.words = search rules in
    let wide : c.len-width.result ≡ length c.args.s.now.sizes = search rules in
    let read : c.deref.result.now ≡ c.in_ok-columns.columns.items = search rules in
    let marked =
    entry-at (IsColumnMark c.args.p.now c.args.e.now c.args.s.now) (length c.args.s.now.sizes)
    (length c.args.e.now.words) c.len-count.result c.row_and_place-x.result.1 c.row_and_place-x.result.0 true
    c.in-Some-mark_at.bad c.in_ok-columns.columns.items c.deref.result.now c.in_ok-columns.ensures.columns same
    read (subst (λ n. c.row_and_place-x.result.1 < n) wide c.row_and_place-x.ensures.place_in)
    (subst (λ n. c.row_and_place-x.result.0 < n) same c.row_and_place-x.ensures.row_in) c.in-Some-mark_at.ensures in
    one-more (IsMark c.args.p.now c.args.e.now c.args.s.now) c.len-width.result c.loop-k.k true c.in-Some-mark_at.bad
    c.loop-k.marks.items c.push.new.self.items c.row_and_place-x.result.0 c.row_and_place-x.result.1 c.loop-k.invariant
    c.in_ok-push.ensures.items c.row_and_place-x.ensures.row c.row_and_place-x.ensures.place marked

pub returns-clause-marks : goal.returns-clause-marks
returns-clause-marks g c =
    let same : c.len-count.result ≡ length c.args.e.now.words = search rules in
    let wide : c.len-width.result ≡ length c.args.s.now.sizes = search rules in
    let full : c.loop-k.k ≡ c.len-count.result * c.len-width.result = grind arith in
    subst (λ n. AreRows (IsMark c.args.p.now c.args.e.now c.args.s.now) n (length c.args.s.now.sizes) true c.loop-k.marks.items) same
    (subst (λ n. AreRows (IsMark c.args.p.now c.args.e.now c.args.s.now) c.len-count.result n true c.loop-k.marks.items) wide
    (all-filled (IsMark c.args.p.now c.args.e.now c.args.s.now) c.len-count.result c.len-width.result c.loop-k.k true c.loop-k.marks.items full
    c.loop-k.invariant))
