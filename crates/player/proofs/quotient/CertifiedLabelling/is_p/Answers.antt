use Rattle.player.proofs.Looked.{label_in}
use Rattle.player.proofs.quotient.CertifiedLabelling.is_p.Goals as goal

pub holds-requires : goal.holds-requires
holds-requires g c = label_in c.args.self.now c.cert.ensures.accepted c.args.x c.requires
