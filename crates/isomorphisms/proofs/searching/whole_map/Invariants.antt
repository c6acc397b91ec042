use Rattle.std.proofs.Common.{◌≡◌, ◌<◌, ℕ, All, length}
use Rattle.std.specs.Prelude.{slice_index}
use Rattle.misere_theory.specs.Certificates.{claim_of}
use Rattle.isomorphisms.specs.Images.{MustTake}
use Rattle.isomorphisms.proofs.searching.whole_map.Given as goal

abbrev pub invariant-loop-e : goal.invariant-loop-e
invariant-loop-e g l = record {
  long : length l.map.items ≡ l.e;
  within : All (λ y. y < l.b.order) l.map.items;
  must : (x : ℕ) → x < l.e
      → MustTake (claim_of l.a) (claim_of l.b) l.images x (slice_index l.map.items x);
}
