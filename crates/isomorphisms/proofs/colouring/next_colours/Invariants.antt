use Rattle.std.proofs.Common.{◌≡◌, ◌<◌, ℕ, All, length}
use Rattle.std.specs.Prelude.{slice_index}
use Rattle.misere_theory.specs.Certificates.{claim_of}
use Rattle.isomorphisms.specs.declared.TheConstants.{COLOURS}
use Rattle.isomorphisms.specs.Profiles.{recoloured}
use Rattle.isomorphisms.proofs.colouring.next_colours.Given as goal

abbrev pub invariant-loop-x : goal.invariant-loop-x
invariant-loop-x g l = record {
  long : length l.next.items ≡ l.x;
  within : All (λ k. k < COLOURS) l.next.items;
  values : (k : ℕ) → k < l.x
      → slice_index l.next.items k ≡ recoloured (claim_of l.quotient) (slice_index l.colours) k;
}
