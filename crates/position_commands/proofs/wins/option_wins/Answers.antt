use Rattle.std.proofs.Common.{◌∙◌, ◌++◌, ◌∷◌, [], ap, append_assoc, subst, sym, List, ℕ}
use Rattle.std.specs.Prelude.{slice_index}
use Rattle.std.specs.String.{string_bytes}
use Rattle.position_commands.specs.Kinds.{code_of, most_of}
use Rattle.position_commands.specs.Wins.{AreOptionWins}
use Rattle.position_commands.specs.Wins.AreOptionWins.{NoOption, Winning, Losing}
use Rattle.position_commands.proofs.Won.{never_both, next_in}
use Rattle.position_commands.proofs.wins.option_wins.Goals as goal

pub loop-left-init : goal.loop-left-init
loop-left-init c = (
  c.into_iter-left-iterator.ensures.into_iter_gives ∙ c.looks-left-items.ensures,
  subst (λ (t : List ℕ). AreOptionWins (code_of c.args.quotient.now) c.args.heaps.now
      (slice_index c.args.heaps.now c.args.at) [] t)
      (sym c.new-text.ensures.bytes) NoOption,
)

pub wins-requires-clause-option : goal.wins-requires-clause-option
wins-requires-clause-option c =
    (c.options_are_exact.ensures.only (code_of c.args.quotient.now) (slice_index c.args.heaps.now c.args.at)
    (most_of c.args.quotient.now) c.in-Some.left
    (next_in _ c.loop-left.yielded c.next.new.self c.in-Some.left
    (ap (λ xs. c.loop-left.yielded ++ xs) (sym c.in-Some.ensures.steps) ∙ c.loop-left.invariant.0))).0

pub wins-requires-clause-in_order : goal.wins-requires-clause-in_order
wins-requires-clause-in_order c =
    (c.options_are_exact.ensures.only (code_of c.args.quotient.now) (slice_index c.args.heaps.now c.args.at)
    (most_of c.args.quotient.now) c.in-Some.left
    (next_in _ c.loop-left.yielded c.next.new.self c.in-Some.left
    (ap (λ xs. c.loop-left.yielded ++ xs) (sym c.in-Some.ensures.steps) ∙ c.loop-left.invariant.0))).1

pub loop-left-preserved-then-is_win : goal.loop-left-preserved-then-is_win
loop-left-preserved-then-is_win c =
    let n = slice_index c.args.heaps.now c.args.at in (
      append_assoc c.loop-left.yielded (c.in-Some.left ∷ []) c.next.new.self
          ∙ ap (λ xs. c.loop-left.yielded ++ xs) (sym c.in-Some.ensures.steps) ∙ c.loop-left.invariant.0,
      subst (λ (t : List ℕ). AreOptionWins (code_of c.args.quotient.now) c.args.heaps.now n
          (c.loop-left.yielded ++ c.in-Some.left ∷ []) t)
          (sym (c.in_ok-push_str.ensures.bytes
          ∙ ap (λ (t : List ℕ). string_bytes c.loop-left.text ++ t)
          (c.as_str.ensures.value ∙ c.in_ok-line.ensures)))
          (Winning c.in-Some.left (c.in_ok-is_win.ensures.0 c.if-is_win.true) c.loop-left.invariant.1),
    )

pub loop-left-preserved : goal.loop-left-preserved
loop-left-preserved c =
    let n = slice_index c.args.heaps.now c.args.at in (
      append_assoc c.loop-left.yielded (c.in-Some.left ∷ []) c.next.new.self
          ∙ ap (λ xs. c.loop-left.yielded ++ xs) (sym c.in-Some.ensures.steps) ∙ c.loop-left.invariant.0,
      Losing c.in-Some.left
          (λ w. never_both _ (c.in_ok-is_win.ensures.1 w) c.if-is_win.false)
          c.loop-left.invariant.1,
    )
