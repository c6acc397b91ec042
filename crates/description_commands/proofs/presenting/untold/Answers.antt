use Rattle.description_commands.specs.Described.TellsPresentation.{NotPresented}
use Rattle.description_commands.proofs.presenting.untold.Goals as goal

pub returns : goal.returns
returns c = NotPresented c.args.why c.in_ok-text.ensures
