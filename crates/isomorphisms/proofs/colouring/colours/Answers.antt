use Rattle.std.proofs.Common.{◌∙◌, ℕ, List, sym, ap, add-one}
use Rattle.std.specs.Prelude.{slice_index}
use Rattle.misere_theory.specs.Certificates.{claim_of}
use Rattle.isomorphisms.specs.Profiles.{colour}
use Rattle.isomorphisms.proofs.Kept.{recoloured-along, next-round}
use Rattle.isomorphisms.proofs.colouring.colours.Goals as goal

pub loop-round-preserved : goal.loop-round-preserved
loop-round-preserved g c =
    let q = claim_of c.args.quotient.now in
    let r = c.loop-round._round in
    record {
      long = c.in_ok-next.ensures.long;
      within = c.in_ok-next.ensures.within;
      values = λ k l.
          c.in_ok-next.ensures.values k l
          ∙ (recoloured-along q c.cert.ensures.accepted.represents.monoid
          (slice_index c.as_slice.result.now) (colour q r)
          (λ x m. ap (λ (xs : List ℕ). slice_index xs x) c.as_slice.ensures.value
          ∙ c.loop-round.invariant.values x m) k l
          ∙ (next-round q r k ∙ ap (λ (n : ℕ). colour q n k) (sym (add-one r))));
    }
