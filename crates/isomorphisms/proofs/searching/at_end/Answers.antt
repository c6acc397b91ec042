use Rattle.std.proofs.Common.{◌≡◌, true, false, sym, subst, arith}
use Rattle.misere_theory.specs.Certificates.{claim_of}
use Rattle.isomorphisms.specs.Isomorphism.{IsMap}
use Rattle.isomorphisms.proofs.ImageLemmas.{only-map}
use Rattle.isomorphisms.proofs.searching.at_end.Goals as goal

pub returns-else-is_map : goal.returns-else-is_map
returns-else-is_map g c = λ col other units.
    let a = claim_of c.args.a.now in
    let b = claim_of c.args.b.now in (
      only-map a b c.args.images.now c.in_ok-map.map.items
          c.cert.ensures.accepted.represents.monoid c.in_ok-map.ensures.long c.in_ok-map.ensures.must
          (λ m.
          let no : false ≡ true =
          c.if-is_map.ensures.1 (subst (IsMap a b) (sym c.as_slice.ensures.value) m) in
          absurd (cc)),
      omega arith,
    )
