use Rattle.std.proofs.Common.{◌≡◌, ◌∙◌, ap, arith, length, rules, subst, sym, List, ℕ}
use Rattle.std.specs.String.{string_bytes}
use Rattle.player.specs.declared.answering.Answer.{Answer}
use Rattle.position_commands.specs.Kinds.{IsAnswerIn}
use Rattle.position_commands.specs.Wins.{AreHeapWins}
use Rattle.position_commands.specs.Wins.TellsWins.{Many, NoWin, SomeWin}
use Rattle.position_commands.proofs.Won.{no_win}
use Rattle.position_commands.proofs.wins.spoken_wins.Goals as goal

pub returns-in_ok-many_text-in-Wins : goal.returns-in_ok-many_text-in-Wins
returns-in_ok-many_text-in-Wins c =
    let many = c.if-looks_bound-gt-MOST_LOOKS.true in
    let most = c.looks_bound.ensures in
    let same : c.into_bytes.result.items ≡ string_bytes c.in_ok-many_text-in-Wins.field-0 = search rules in
    Many c.in-Wins.field-0
    (subst (λ (a : Answer). IsAnswerIn c.args.quotient.now c.args.position.now a) c.in-Wins.is c.answer_in.ensures)
    (omega (arith, many, most))
    (ap (λ v. v.items) c.no.ensures.text ∙ same ∙ c.in_ok-many_text-in-Wins.ensures) c.no.ensures.succeeds

pub returns-in_ok-heap_wins-in-Wins-2 : goal.returns-in_ok-heap_wins-in-Wins-2
returns-in_ok-heap_wins-in-Wins-2 c =
    let few = c.if-looks_bound-gt-MOST_LOOKS.false in
    let most = c.looks_bound.ensures in
    let q = c.args.quotient.now in
    let X = c.args.position.now in
    SomeWin c.in-Wins-2.field-0
    (subst (λ (a : Answer). IsAnswerIn q X a) c.in-Wins-2.is c.answer_in.ensures)
    (omega (arith, few, most))
    (subst (λ (t : List ℕ). AreHeapWins q X (length X) t) (sym c.done.ensures.text)
    (subst (λ (Y : List ℕ). AreHeapWins q Y (length Y)
    (string_bytes c.in_ok-heap_wins-in-Wins-2.field-0)) c.heaps.ensures.value
    c.in_ok-heap_wins-in-Wins-2.ensures))
    c.done.ensures.succeeds

pub returns-in_ok-answer_text-in_default : goal.returns-in_ok-answer_text-in_default
returns-in_ok-answer_text-in_default c =
    NoWin c.answer_in.result c.answer_in.ensures (no_win c.answer_in.result c.in_default.not-Wins)
    (c.done-in_default.ensures.text ∙ c.in_ok-answer_text-in_default.ensures)
    c.done-in_default.ensures.succeeds
