use Rattle.std.proofs.Common.{◌≡◌, ◌∙◌, ◌+◌, ◌++◌, ◌∷◌, ◌&&◌, Bor, ap, drop, map, subst, sym, ℕ, List, true, []}
use Rattle.std.proofs.lemmas.List.{at_drop_all, at_drop_more}
use Rattle.command_results.proofs.LineLaws.{all_answered, if_not, if_so, one_more_answered}
use Rattle.solve_command.specs.Many.{AnswersCodes}
use Rattle.solve_command.specs.Many.AnswersCodes.{Code, NoMore}
use Rattle.solve_command.proofs.many.words_answers.Goals as goal
use Rattle.solve_command.proofs.many.words_answers.Goals.{then-succeeds, else-succeeds}

abbrev texts : List (Bor (List ℕ)) → List (List ℕ)
texts words = map (λ (w : Bor (List ℕ)). w.now) words

pub loop-word-preserved : goal.loop-word-preserved
loop-word-preserved c =
    let words = c.args.words.now in
    let i = c.loop-word.word-index in
    let word = c.as_bytes.result.now in
    let said = c.in_ok-said.said in
    let first : texts (drop i words) ≡ word ∷ texts (drop (i + 1) words) =
    at_drop_more texts words i _ c.loop-word-test.true
    ∙ ap (λ (w : List ℕ). w ∷ texts (drop (i + 1) words)) (sym c.as_bytes.ensures.value) in
    one_more_answered (AnswersCodes c.args.bounds) (texts words) (texts (drop i words))
    (texts (drop (i + 1) words)) c.loop-word.text.items said.text.items
    c.extend_from_slice.new.self.items c.loop-word.succeeds said.succeeds c.if-succeeds.succeeds
    c.loop-word.invariant
    (λ later well after.
    subst (λ (ws : List (List ℕ)). AnswersCodes c.args.bounds ws (said.text.items ++ later)
    (said.succeeds && well)) (sym first) (Code word c.in_ok-said.ensures after))
    (c.in_ok-extend_from_slice.ensures.items
    ∙ ap (λ (t : List ℕ). c.loop-word.text.items ++ t) c.deref.ensures.value)
    (elim c.if-succeeds.branch [
      | then-succeeds w ↦ if_so c.loop-word.succeeds said.succeeds c.if-succeeds.succeeds
          w.if-succeeds.true w.succeeds-is
      | else-succeeds w ↦ if_not c.loop-word.succeeds said.succeeds c.if-succeeds.succeeds
          w.if-succeeds.false w.succeeds-is
    ])

pub returns : goal.returns
returns c =
    let words = c.args.words.now in
    let i = c.loop-word.word-index in
    all_answered (AnswersCodes c.args.bounds) (texts words) (texts (drop i words))
    c.loop-word.text.items c.loop-word.succeeds c.loop-word.invariant
    (subst (λ (ws : List (List ℕ)). AnswersCodes c.args.bounds ws [] true)
    (sym (at_drop_all texts words i c.loop-word-test.false)) NoMore)
