use Rattle.std.proofs.Common.{◌≡◌, List, sym, subst}
use Rattle.opened.specs.declared.text.AcceptedText.{AcceptedText}
use Rattle.infinite_queries.specs.Asked.{TellsAnswer}
use Rattle.player.specs.Many.{TellAll}
use Rattle.player.specs.declared.numbers.MisereAnswer.{MisereAnswer}
use Rattle.infinite_queries.proofs.queries.answers.Goals as goal

pub returns-in-Ok-clause-yes : goal.returns-in-Ok-clause-yes
returns-in-Ok-clause-yes c =
    let C = c.in-Some.quotient.value in
    let X = c.args.heaps.now in
    let ends = c.args.ends.now in
    let same : c.shown.result.now ≡ C =
    (let a = c.shown.ensures in let b = c.deref.ensures in cc) in
    let copied : c.copy_from_slice.new.self ≡ c.in-Ok.made.items =
    (let a = c.copy_from_slice.ensures.after in let b = c.deref-in-Ok.ensures.value in cc) in
    λ e. (
      C,
      c.in-Some.ensures.taken,
      subst (λ (told : List MisereAnswer). TellAll TellsAnswer X ends told C) (sym copied)
          (subst (λ (d : AcceptedText). TellAll TellsAnswer X ends c.in-Ok.made.items d) same
          c.in-Ok.ensures.yes),
    )
