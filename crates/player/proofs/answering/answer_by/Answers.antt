use Rattle.std.proofs.Common.{subst}
use Rattle.positions.specs.Outcomes.{HasOutcome}
use Rattle.player.proofs.Answered.{wins_right, ended_right}
use Rattle.player.proofs.answering.answer_by.Goals as goal

pub returns-in-Some : goal.returns-in-Some
returns-in-Some g c =
    wins_right _ (g.L.Labelling.code c.args.by.now) c.args.heaps.now c.in-Some.made
    c.in-Some.ensures.0.0 c.in-Some.ensures

pub returns-in-None : goal.returns-in-None
returns-in-None g c =
    ended_right _ (g.L.Labelling.code c.args.by.now) c.args.heaps.now
    (subst (HasOutcome (g.L.Labelling.code c.args.by.now) c.args.heaps.now) c.in-N.is c.outcome_by.ensures)
    c.in-None.ensures
