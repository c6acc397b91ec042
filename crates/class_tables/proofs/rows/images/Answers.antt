use Rattle.std.proofs.Common.{◌≡◌, ◌*◌, length, subst, arith, rules}
use Rattle.presented_tables.specs.Rows.{AreRows}
use Rattle.presented_tables.proofs.Filled.{one-more, all-filled}
use Rattle.class_tables.specs.Tables.{IsImage}
use Rattle.class_tables.proofs.rows.images.Goals as goal

pub loop-k-preserved : goal.loop-k-preserved
loop-k-preserved g c =
    one-more (IsImage c.args.p.now c.args.l.now) c.len-width.result c.loop-k.k 0 c.in-Some-image.y
    c.loop-k.images.items _ c.row_and_place-w.result.0 c.row_and_place-w.result.1 c.loop-k.invariant
    c.in_ok-push.ensures.items c.row_and_place-w.ensures.row c.row_and_place-w.ensures.place
    c.in-Some-image.ensures

pub returns-clause-images : goal.returns-clause-images
returns-clause-images g c =
    let same : c.len-count.result ≡ length c.args.l.now.labels = search rules in
    let wide : c.len-width.result ≡ length c.args.l.now.classes = search rules in
    let full : c.loop-k.k ≡ c.len-count.result * c.len-width.result = grind arith in
    subst (λ n. AreRows (IsImage c.args.p.now c.args.l.now) n (length c.args.l.now.classes) 0 c.loop-k.images.items) same
    (subst (λ n. AreRows (IsImage c.args.p.now c.args.l.now) c.len-count.result n 0 c.loop-k.images.items) wide
    (all-filled (IsImage c.args.p.now c.args.l.now) c.len-count.result c.len-width.result c.loop-k.k 0 c.loop-k.images.items full
    c.loop-k.invariant))
