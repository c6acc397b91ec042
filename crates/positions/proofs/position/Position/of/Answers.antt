use Rattle.std.proofs.Common.{subst}
use Rattle.std.specs.List.Sorted.{IsPermutation}
use Rattle.std.proofs.lemmas.List.Sorted.{All-permutation}
use Rattle.positions.specs.Positions.{IsSize}
use Rattle.positions.proofs.position.Position.of.Goals as goal

pub invariant_of-result : goal.invariant_of-result
invariant_of-result g c =
    let same : IsPermutation c.args.sizes.now c.sort.new.heaps.items =
    subst (λ xs. IsPermutation xs c.sort.new.heaps.items) c.in_ok-heaps.ensures.ok
    c.sort.ensures.same in (
      c.sort.ensures.rising,
      All-permutation IsSize c.args.sizes.now c.sort.new.heaps.items same
          c.requires,
    )
