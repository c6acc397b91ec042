use Rattle.std.proofs.Common.{◌≡◌, ◌∙◌, ◌++◌, length, ap, sym, subst, arith}
use Rattle.std.specs.List.{remove}
use Rattle.std.specs.List.Sorted.{IsNonDecreasing, IsPermutation}
use Rattle.heap_options.specs.Exact.{heaps_of}
use Rattle.std.proofs.lemmas.List.Edits.{length-remove}
use Rattle.positions.proofs.Heaps.{rest_rises, moved_fit}
use Rattle.positions.proofs.HeapsFit.{heaps_fit}
use Rattle.positions.proofs.position.Position.set_moved.Goals as goal

pub add_left-requires : goal.add_left-requires
add_left-requires g c =
    let others : c.set_others.new.heaps.items ≡ remove c.args.from.now c.args.at =
    c.set_others.ensures.items ∙ ap (λ xs. remove xs c.args.at) c.heaps-heaps.ensures.value in (
      heaps_fit g.row.A g.A.Allocator g.met.A.SmallAllocator.small,
      (
        (let cut = length-remove c.args.from.now c.args.at c.requires.there in
            let rest = ap length others in
            let after = c.set_others.ensures.capacity in
            let same = ap length c.reserve.ensures.items in
            let len = c.len.ensures.value in
            let more = c.saturating_sub-more.ensures in
            let left = c.count.ensures in
            let room = c.in_ok-reserve.ensures.ok in
            let all = ap length c.heaps-heaps.ensures.value in
            omega arith),
        subst IsNonDecreasing (sym others)
            (rest_rises c.args.from.now c.args.at c.requires.there c.heaps-heaps.ensures.rising),
      ),
    )

pub invariant_of-self-2 : goal.invariant_of-self-2
invariant_of-self-2 g c =
    let others : c.set_others.new.heaps.items ≡ remove c.args.from.now c.args.at =
    c.set_others.ensures.items ∙ ap (λ xs. remove xs c.args.at) c.heaps-heaps.ensures.value in
    let same : IsPermutation (heaps_of c.args.left ++ remove c.args.from.now c.args.at)
    c.add_left.new.heaps.items =
    subst (λ xs. IsPermutation (heaps_of c.args.left ++ xs) c.add_left.new.heaps.items) others
    c.add_left.ensures.same in (
      c.add_left.ensures.rising,
      moved_fit c.args.from.now c.args.at c.args.left
          c.add_left.new.heaps.items c.requires.there c.heaps-heaps.ensures.sizes c.requires.sizes
          same,
    )
