use Rattle.std.proofs.lemmas.List.Elements.{recursion_from_All}
use Rattle.std.proofs.lemmas.List.Sorted.{All-permutation, IsNonDecreasingBy-from_sort}
use Rattle.infinite_queries.specs.Asked.{IsSpokenOf}
use Rattle.infinite_queries.proofs.asking.sorted_answer.Goals as goal

pub rising_answer-requires-clause-speaks : goal.rising_answer-requires-clause-speaks
rising_answer-requires-clause-speaks c =
    let heap = IsSpokenOf c.args.shown.now in
    let X = c.sort_unstable.new.self in
    recursion_from_All heap X
    (All-permutation heap c.args.heaps.now X c.sort_unstable.ensures.permutation c.requires)

pub rising_answer-requires-clause-rising : goal.rising_answer-requires-clause-rising
rising_answer-requires-clause-rising c =
    IsNonDecreasingBy-from_sort (λ x. x) _ c.sort_unstable.ensures.sorted

pub returns-clause-told : goal.returns-clause-told
returns-clause-told c =
    let rising = IsNonDecreasingBy-from_sort (λ x. x) _ c.sort_unstable.ensures.sorted in (
      recursion_from_All (IsSpokenOf c.args.shown.now) c.args.heaps.now c.requires,
      (
        c.sort_unstable.new.self,
        c.sort_unstable.ensures.permutation,
        rising,
        (c.rising_answer.result, c.told.ensures, c.rising_answer.ensures),
      ),
    )

pub returns-clause-rising : goal.returns-clause-rising
returns-clause-rising c = IsNonDecreasingBy-from_sort (λ x. x) _ c.sort_unstable.ensures.sorted
