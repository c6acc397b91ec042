use Rattle.std.proofs.Common.{ap}
use Rattle.desk.specs.Replies.{event_of}
use Rattle.desk.specs.Desks.{state_of}
use Rattle.desk.proofs.Steps.{same_step}
use Rattle.desk.proofs.desk.Desk.act.Goals as goal

pub returns-in-Ask : goal.returns-in-Ask
returns-in-Ask g c =
    same_step (state_of c.args.self.now) c.args.client _ _ _ (ap event_of c.in-Ask.is) c.ask.ensures

pub returns-in-Play : goal.returns-in-Play
returns-in-Play g c =
    same_step (state_of c.args.self.now) c.args.client _ _ _ (ap event_of c.in-Play.is) c.play.ensures
