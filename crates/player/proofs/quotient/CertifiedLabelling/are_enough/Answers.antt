use Rattle.player.proofs.Looked.{keeps_heaps, enough}
use Rattle.player.proofs.quotient.CertifiedLabelling.are_enough.Goals as goal

pub returns-clause-part : goal.returns-clause-part
returns-clause-part g c = keeps_heaps c.args.self.now c.cert.ensures.accepted

pub returns-clause-enough : goal.returns-clause-enough
returns-clause-enough g c = enough c.args.self.now c.cert.ensures.accepted
