use Rattle.description_commands.proofs.Found.{describes_found}
use Rattle.description_commands.proofs.describing.describe.Goals as goal

pub returns-clause-describes : goal.returns-clause-describes
returns-clause-describes g c =
    describes_found _ c.args.limit c.args.form c.args.output _ _ _ _ c.in_ok-found.ensures.found c.in_ok-noted.ensures
