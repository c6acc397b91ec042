use Rattle.std.proofs.Common.{◌≡◌, ◌<◌, ℕ, All, length}
use Rattle.std.specs.Prelude.{slice_index}
use Rattle.misere_theory.specs.Certificates.{claim_of}
use Rattle.isomorphisms.specs.declared.TheConstants.{COLOURS}
use Rattle.isomorphisms.specs.Profiles.{colour}
use Rattle.isomorphisms.proofs.colouring.colours.Given as goal

abbrev pub invariant-loop-round : goal.invariant-loop-round
invariant-loop-round g l = record {
  long : length l.colours.items ≡ l.quotient.order;
  within : All (λ k. k < COLOURS) l.colours.items;
  values : (k : ℕ) → k < l.quotient.order
      → slice_index l.colours.items k ≡ colour (claim_of l.quotient) l._round k;
}
