use Rattle.std.proofs.Common.{arith}
use Rattle.std.proofs.lemmas.List.Sorted.{IsPermutation-insert}
use Rattle.positions.proofs.Heaps.{placed}
use Rattle.positions.proofs.HeapsFit.{on_success}
use Rattle.positions.proofs.position.add_heap.Goals as goal

pub returns-clause-same : goal.returns-clause-same
returns-clause-same g c =
    let room = c.requires.room in
    let items = on_success c.insert.result _ (c.insert.ensures.succeeds (omega arith))
    c.insert.ensures.ok in
    rw items (IsPermutation-insert _ _ _)

pub returns-clause-rising : goal.returns-clause-rising
returns-clause-rising g c =
    let room = c.requires.room in
    let items = on_success c.insert.result _ (c.insert.ensures.succeeds (omega arith))
    c.insert.ensures.ok in
    rw items (
    placed c.args.heaps.now.items c.place_for-at.result c.args.heap c.requires.rising
    (rw (← c.as_slice.ensures) c.place_for-at.ensures.within)
    (rw (← c.as_slice.ensures) c.place_for-at.ensures.before)
    (rw (← c.as_slice.ensures) c.place_for-at.ensures.after)
    )
