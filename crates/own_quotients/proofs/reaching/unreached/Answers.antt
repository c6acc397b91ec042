use Rattle.std.proofs.Common.{rules, ◌≡◌, ◌<◌, ℕ, Bool, false, List, subst}
use Rattle.std.specs.Prelude.{IfSome, slice_index_or}
use Rattle.own_quotients.specs.Marked.{AreClosed}
use Rattle.own_quotients.proofs.ReachedLaws.{found_unreached}
use Rattle.own_quotients.proofs.reaching.unreached.Goals as goal

pub returns-then-are_closed : goal.returns-then-are_closed
returns-then-are_closed g c =
    let closed : AreClosed c.args.table.now c.args.identity c.deref.result.now =
    c.if-are_closed.ensures (search rules) in
    found_unreached c.args.table.now c.order.ensures.own c.args.identity c.requires
    c.in_ok-marks.marks.items
    (subst (λ (m : List Bool). AreClosed c.args.table.now c.args.identity m) c.deref.ensures.value
    closed)
    c.unmarked.result
    (subst
    (λ (m : List Bool). IfSome c.unmarked.result
    (λ x. (x < c.args.table.now.order) × (slice_index_or m x false ≡ false)))
    c.deref-then-are_closed.ensures.value
    (subst
    (λ (n : ℕ). IfSome c.unmarked.result
    (λ x. (x < n) × (slice_index_or c.deref-then-are_closed.result.now x false ≡ false)))
    c.order.ensures.value c.unmarked.ensures))
