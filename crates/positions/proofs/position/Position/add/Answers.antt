use Rattle.std.proofs.Common.{◌≡◌, ◌++◌, ◌∙◌, length, ap, ap₂, subst, arith, All}
use Rattle.std.specs.List.Sorted.{IsPermutation}
use Rattle.std.proofs.lemmas.List.Elements.{All-append}
use Rattle.std.proofs.lemmas.List.Sorted.{All-permutation}
use Rattle.positions.specs.Positions.{IsSize}
use Rattle.positions.proofs.HeapsFit.{not_failed}
use Rattle.positions.proofs.position.Position.add.Goals as goal

pub returns-in_err-extend_from_slice-clause-inline :
    goal.returns-in_err-extend_from_slice-clause-inline
returns-in_err-extend_from_slice-clause-inline g c = λ few.
    let len = ap length (c.in_ok-heaps.ensures.ok ∙ c.heaps.ensures.value) in
    let others = ap length c.heaps-2.ensures.value in
    let capacity = c.in_ok-heaps.ensures.inline
    (let first = ap length c.heaps.ensures.value in omega arith) in
    absurd (not_failed (c.in_err-extend_from_slice.ensures.succeeds (omega arith)))

pub invariant_of-result : goal.invariant_of-result
invariant_of-result g c =
    let whole : c.extend_from_slice.new.self.items ≡ c.args.self.now ++ c.args.other.now =
    c.in_ok-extend_from_slice.ensures.ok
    ∙ ap₂ (λ xs ys. xs ++ ys) (c.in_ok-heaps.ensures.ok ∙ c.heaps.ensures.value)
    c.heaps-2.ensures.value in
    let same : IsPermutation (c.args.self.now ++ c.args.other.now) c.sort.new.heaps.items =
    subst (λ xs. IsPermutation xs c.sort.new.heaps.items) whole c.sort.ensures.same in
    let sizes : All IsSize (c.args.self.now ++ c.args.other.now) =
    All-append IsSize c.args.self.now c.args.other.now c.heaps.ensures.sizes
    c.heaps-2.ensures.sizes in (
      c.sort.ensures.rising,
      All-permutation IsSize (c.args.self.now ++ c.args.other.now)
          c.sort.new.heaps.items same sizes,
    )
