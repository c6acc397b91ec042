use Rattle.std.proofs.Common.{arith}
use Rattle.misere_theory.specs.Certificates.{claim_of}
use Rattle.isomorphisms.proofs.ImageLemmas.{must-first}
use Rattle.isomorphisms.proofs.forcing.first_pair.Goals as goal

pub returns : goal.returns
returns g c = record {
  from = omega (arith, c.requires.i_in, c.requires.images_few);
  to = c.requires.images_in c.args.i 0 c.requires.i_in;
  must = must-first (claim_of c.args.a.now) (claim_of c.args.b.now) c.args.images.now c.args.i c.requires.i_in;
}
