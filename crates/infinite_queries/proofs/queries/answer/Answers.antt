use Rattle.std.proofs.Common.{◌≡◌, subst}
use Rattle.opened.specs.declared.text.AcceptedText.{AcceptedText}
use Rattle.infinite_queries.specs.Asked.{TellsAnswer}
use Rattle.infinite_queries.proofs.queries.answer.Goals as goal

pub returns-in-Ok-clause-yes : goal.returns-in-Ok-clause-yes
returns-in-Ok-clause-yes c =
    let C = c.in-Some.quotient.value in
    let same : c.shown.result.now ≡ C =
    (let a = c.shown.ensures in let b = c.deref.ensures in cc) in
    λ e. (
      C,
      c.in-Some.ensures.taken,
      subst (λ (s : AcceptedText). TellsAnswer c.args.heaps.now c.in-Ok.made s) same c.in-Ok.ensures.yes,
    )
