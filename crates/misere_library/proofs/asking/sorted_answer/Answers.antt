use Rattle.std.proofs.lemmas.List.Sorted.{All-permutation, IsNonDecreasingBy-from_sort}
use Rattle.misere_theory.specs.Certificates.{IsHeapOf}
use Rattle.misere_library.proofs.Positions.{speaks_here}
use Rattle.misere_library.proofs.asking.sorted_answer.Goals as goal

pub answer_at-requires-clause-position : goal.answer_at-requires-clause-position
answer_at-requires-clause-position c =
    let heap = IsHeapOf c.args.certified.now in
    let X = c.sort_unstable.new.self in
    speaks_here heap X
    (All-permutation heap c.args.heaps.now X c.sort_unstable.ensures.permutation c.requires)

pub answer_at-requires-clause-rising : goal.answer_at-requires-clause-rising
answer_at-requires-clause-rising c =
    IsNonDecreasingBy-from_sort (λ x. x) _ c.sort_unstable.ensures.sorted

pub returns-clause-told : goal.returns-clause-told
returns-clause-told c =
    let rising = IsNonDecreasingBy-from_sort (λ x. x) _ c.sort_unstable.ensures.sorted in (
      speaks_here (IsHeapOf c.args.certified.now) c.args.heaps.now c.requires,
      (
        c.sort_unstable.new.self,
        c.sort_unstable.ensures.permutation,
        rising,
        (c.answer_at.result, c.told.ensures, c.answer_at.ensures),
      ),
    )

pub returns-clause-rising : goal.returns-clause-rising
returns-clause-rising c = IsNonDecreasingBy-from_sort (λ x. x) _ c.sort_unstable.ensures.sorted
