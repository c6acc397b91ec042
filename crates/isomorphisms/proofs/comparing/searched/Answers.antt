use Rattle.std.proofs.Common.{◌<◌, subst}
use Rattle.std.specs.Prelude.{slice_index}
use Rattle.misere_theory.specs.Certificates.{claim_of}
use Rattle.compact_certificates.specs.Rows.{firsts_of}
use Rattle.isomorphisms.proofs.Told.{kept-lists, lists-told, long-said, nothing-said}
use Rattle.isomorphisms.proofs.comparing.searched.Goals as goal

pub search-requires-clause-colours : goal.search-requires-clause-colours
search-requires-clause-colours g c =
    kept-lists (claim_of c.args.a.now) (claim_of c.args.b.now)
    c.cert.ensures.accepted.represents.monoid c.args.colours.now c.args.others.now
    c.requires.colours c.requires.others

pub returns-in-Nothing : goal.returns-in-Nothing
returns-in-Nothing g c = (
  (c.requires.alike, c.requires.met.0, c.requires.met.1),
  nothing-said (claim_of c.args.a.now) (claim_of c.args.b.now) (slice_index c.args.colours.now)
      (slice_index c.args.others.now) (firsts_of c.args.a.now.words) c.args.units c.search.new.units
      c.in_ok-map.field-0 c.in_ok-map.ensures c.in-Nothing.is,
)

pub returns-in-Long : goal.returns-in-Long
returns-in-Long g c =
    subst (λ n. c.args.units < n)
    (lists-told c.args.a.now (claim_of c.args.b.now) c.args.colours.now c.args.others.now
    c.cert.ensures.accepted c.requires.colours c.requires.others)
    (long-said (claim_of c.args.a.now) (claim_of c.args.b.now) (slice_index c.args.colours.now)
    (slice_index c.args.others.now) (firsts_of c.args.a.now.words) c.args.units c.search.new.units
    c.in_ok-map.field-0 c.in_ok-map.ensures c.in-Long.is)
