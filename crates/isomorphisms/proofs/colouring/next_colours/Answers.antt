use Rattle.std.proofs.Common.{◌≡◌, ◌<◌, All, length, sym, ap, subst, arith}
use Rattle.std.specs.Prelude.{slice_index}
use Rattle.std.proofs.lemmas.List.{length_push}
use Rattle.std.proofs.lemmas.List.Elements.{All-push}
use Rattle.misere_theory.specs.Certificates.{claim_of}
use Rattle.isomorphisms.specs.declared.TheConstants.{COLOURS}
use Rattle.isomorphisms.specs.Profiles.{recoloured}
use Rattle.isomorphisms.proofs.ImageLemmas.{values-pushed}
use Rattle.isomorphisms.proofs.colouring.next_colours.Goals as goal

pub loop-x-preserved : goal.loop-x-preserved
loop-x-preserved g c = record {
  long =
      let e = ap length c.in_ok-push.ensures.items in
      let p = length_push c.loop-x.next.items c.recoloured-colour.result in
      omega (arith, e, p, c.loop-x.invariant.long);
  within =
      subst (All (λ k. k < COLOURS)) (sym c.in_ok-push.ensures.items)
      (All-push (λ k. k < COLOURS) c.loop-x.next.items c.recoloured-colour.result c.loop-x.invariant.within
      c.recoloured-colour.ensures.within);
  values =
      values-pushed
      (λ k v. v ≡ recoloured (claim_of c.args.quotient.now) (slice_index c.args.colours.now) k)
      c.loop-x.next.items c.push.new.self.items c.loop-x.x c.recoloured-colour.result c.loop-x.invariant.long
      c.loop-x.invariant.values c.recoloured-colour.ensures.value c.in_ok-push.ensures.items;
}
