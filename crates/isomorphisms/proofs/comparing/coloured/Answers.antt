use Rattle.misere_theory.specs.Certificates.{claim_of}
use Rattle.isomorphisms.proofs.Told.{first-apart, lists-met, second-apart}
use Rattle.isomorphisms.proofs.comparing.coloured.Goals as goal

pub returns-in-Some-clause-told : goal.returns-in-Some-clause-told
returns-in-Some-clause-told g c =
    first-apart (claim_of c.args.a.now) (claim_of c.args.b.now)
    c.cert.ensures.accepted.represents.monoid c.args.colours.now c.args.others.now
    c.requires.colours c.requires.others c.requires.colours_long c.requires.others_long
    c.in-Some.x c.in-Some.ensures.apart.0 c.in-Some.ensures.apart.1

pub returns-in-Some-alone-clause-told : goal.returns-in-Some-alone-clause-told
returns-in-Some-alone-clause-told g c =
    second-apart (claim_of c.args.a.now) (claim_of c.args.b.now)
    c.cert.ensures.accepted.represents.monoid c.args.colours.now c.args.others.now
    c.requires.colours c.requires.others c.requires.colours_long c.requires.others_long
    c.in-Some-alone.y c.in-Some-alone.ensures.apart.0 c.in-Some-alone.ensures.apart.1

pub returns-clause-met : goal.returns-clause-met
returns-clause-met g c = (
  lists-met (claim_of c.args.a.now) (claim_of c.args.b.now) c.args.colours.now c.args.others.now
      c.requires.colours c.requires.others c.requires.colours_long c.requires.others_long
      c.in_default.ensures.met,
  lists-met (claim_of c.args.b.now) (claim_of c.args.a.now) c.args.others.now c.args.colours.now
      c.requires.others c.requires.colours c.requires.others_long c.requires.colours_long
      c.in_default-alone.ensures.met,
)
