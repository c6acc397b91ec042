use Rattle.std.proofs.Common.{rules}
use Rattle.catalogue.proofs.store.Catalogue.write.Goals as goal

pub returns-clause-written : goal.returns-clause-written
returns-clause-written g c = search rules
