use Rattle.misere_theory.specs.Certificates.{kind_of}
use Rattle.misere_theory.proofs.Counting.{kept_in}
use Rattle.position_commands.proofs.quotients.finite_inside.Goals as goal

pub returns : goal.returns
returns c = kept_in (kind_of c.args.certified.now) c.args.certified.now.code
