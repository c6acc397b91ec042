use Rattle.desk.specs.declared.client.TheConstants.{PLACES}
use Rattle.desk.proofs.Lists.{none_at_all}
use Rattle.desk.proofs.jobs.nobody.Goals as goal

pub returns : goal.returns
returns c = none_at_all PLACES
