use Rattle.std.proofs.Common.{◌≡◌, subst}
use Rattle.opened.specs.declared.text.AcceptedText.{AcceptedText}
use Rattle.infinite_queries.specs.Asked.{TellsOutcome}
use Rattle.player.specs.Many.{TellAll}
use Rattle.infinite_queries.proofs.queries.outcomes.Goals as goal

pub returns-clause-yes : goal.returns-clause-yes
returns-clause-yes c =
    let C = c.in-Some.quotient.value in
    let same : c.shown.result.now ≡ C =
    (let a = c.shown.ensures in let b = c.deref.ensures in cc) in
    λ e. (
      C,
      c.in-Some.ensures.taken,
      subst (λ (d : AcceptedText). TellAll TellsOutcome c.args.heaps.now c.args.ends.now c.outcomes_in-status.new.told d)
          same (c.outcomes_in-status.ensures.yes e),
    )
