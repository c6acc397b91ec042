use Rattle.certificate.proofs.Rows.{agrees, shaped}
use Rattle.certificate.proofs.laws.claims_agree.Goals as goal

pub returns-clause-agrees : goal.returns-clause-agrees
returns-clause-agrees g = agrees

pub returns-clause-shaped : goal.returns-clause-shaped
returns-clause-shaped g = shaped
