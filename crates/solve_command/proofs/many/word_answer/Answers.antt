use Rattle.std.proofs.Common.{◌∙◌, Bool, List, ap, subst, ℕ}
use Rattle.solve_command.specs.Many.{named}
use Rattle.solve_command.specs.Many.AnswersCode.{GaveUp}
use Rattle.solve_command.specs.Solved.{Solves}
use Rattle.solve_command.proofs.many.word_answer.Goals as goal

pub returns-in_ok-named-in-Ok-2 : goal.returns-in_ok-named-in-Ok-2
returns-in_ok-named-in-Ok-2 c =
    let said = c.in-Ok.said in
    GaveUp said.text.items
    (subst (λ (b : Bool). Solves c.args.word.now c.args.bounds said.text.items b)
    c.if-solve_bytes.false c.in-Ok.ensures.says)
    (c.in_ok-named-in-Ok-2.ensures.text
    ∙ ap (λ (t : List ℕ). named c.args.word.now t) c.deref.ensures.value)
    c.in_ok-named-in-Ok-2.ensures.succeeds
