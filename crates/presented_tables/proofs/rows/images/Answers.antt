use Rattle.std.proofs.Common.{◌≡◌, ◌*◌, length, subst, arith, rules}
use Rattle.presented_tables.specs.Rows.{AreRows, IsImage}
use Rattle.presented_tables.proofs.Filled.{one-more, all-filled}
use Rattle.presented_tables.proofs.rows.images.Goals as goal

pub loop-k-preserved : goal.loop-k-preserved
loop-k-preserved g c =
    one-more (IsImage c.args.p.now c.args.e.now) c.len-count.result c.loop-k.k 0 c.in_ok-y.y
    c.loop-k.images.items _ c.row_and_place-w.result.0 c.row_and_place-w.result.1 c.loop-k.invariant
    c.in_ok-push.ensures.items c.row_and_place-w.ensures.row c.row_and_place-w.ensures.place
    c.in_ok-y.ensures.image

pub returns-clause-images : goal.returns-clause-images
returns-clause-images g c =
    let same : c.len-count.result ≡ length c.args.e.now.words = search rules in
    let full : c.loop-k.k ≡ c.len-count.result * c.len-count.result = grind arith in
    subst (λ n. AreRows (IsImage c.args.p.now c.args.e.now) n n 0 c.loop-k.images.items) same
    (all-filled (IsImage c.args.p.now c.args.e.now) c.len-count.result c.len-count.result c.loop-k.k 0 c.loop-k.images.items full
    c.loop-k.invariant)
