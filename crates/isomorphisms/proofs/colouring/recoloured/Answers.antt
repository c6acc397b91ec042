use Rattle.std.proofs.Common.{◌∙◌, ℕ, ◌+◌, sym, ap, ap₂, arith}
use Rattle.std.specs.Prelude.{slice_index}
use Rattle.misere_theory.specs.Certificates.{times_of}
use Rattle.isomorphisms.specs.Profiles.{mixed}
use Rattle.isomorphisms.proofs.Sums.{sum_more}
use Rattle.isomorphisms.proofs.colouring.recoloured.Goals as goal

pub loop-z-preserved : goal.loop-z-preserved
loop-z-preserved g c =
    let colours : ℕ → ℕ = slice_index c.args.colours.now in
    let term : ℕ → ℕ =
    λ z. mixed (colours z) (colours (times_of c.args.quotient.now c.args.x z)) in
    record {
      value =
          ap₂ (λ a b. a + b) c.loop-z.invariant.value
          (c.mixed-sum.ensures.value
          ∙ ap (λ p. mixed (colours c.loop-z.z) (colours p)) c.times-product.ensures.value)
          ∙ sym (sum_more term c.loop-z.z);
      small = omega (arith, c.loop-z.invariant.small, c.mixed-sum.ensures.within);
    }
