use Rattle.std.proofs.Common.{List, ℕ, subst, sym}
use Rattle.std.proofs.lemmas.List.Elements.{recursion_from_All}
use Rattle.std.proofs.lemmas.List.Sorted.{All-permutation}
use Rattle.infinite_queries.specs.Asked.{IsAnswerIn, IsSpokenOf, SpeaksOf}
use Rattle.infinite_queries.proofs.asking.answer_to.Goals as goal

pub rising_answer-requires-clause-speaks : goal.rising_answer-requires-clause-speaks
rising_answer-requires-clause-speaks c =
    let heap = IsSpokenOf c.args.shown.now in
    let X = c.args.position.now in
    subst (λ (H : List ℕ). SpeaksOf c.args.shown.now H) (sym c.heaps.ensures.value)
    (recursion_from_All heap X (All-permutation heap c.args.heaps.now X c.requires.same c.requires.speaks))

pub returns : goal.returns
returns c = (
  recursion_from_All (IsSpokenOf c.args.shown.now) c.args.heaps.now c.requires.speaks,
  (
    c.args.position.now,
    c.requires.same,
    c.heaps.ensures.rising,
    (
      c.rising_answer.result,
      c.told.ensures,
      subst (λ (H : List ℕ). IsAnswerIn c.args.shown.now H c.rising_answer.result) c.heaps.ensures.value
          c.rising_answer.ensures,
    ),
  ),
)
