use Rattle.std.proofs.Common.{◌∙◌, length, ap}
use Rattle.std.proofs.lemmas.List.Sorted.{IsNonDecreasingBy-from_sort}
use Rattle.smallvec.proofs.SmallVecLemmas.{items-with_items}
use Rattle.positions.proofs.position.sort.Goals as goal

pub returns-clause-rising : goal.returns-clause-rising
returns-clause-rising g c =
    let len = c.sort_unstable.ensures.len ∙ ap length c.deref_mut.ensures.value in
    rw (items-with_items c.args.heaps.now c.sort_unstable.new.self len)
    (IsNonDecreasingBy-from_sort (λ x. x) _ c.sort_unstable.ensures.sorted)
