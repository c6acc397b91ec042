use Rattle.std.proofs.Common.{◌<◌, ◌≤◌, ◌+◌, ◌-◌, ◌*◌, ℕ, [], ◌∷◌, ◌++◌, length}
use Rattle.std.specs.Prelude.{slice_index}
use Rattle.misere_theory.specs.Certificates.{claim_of}
use Rattle.compact_certificates.specs.Rows.{firsts_of}
use Rattle.isomorphisms.specs.Images.{NoneTakes, alike_below, lists_of}
use Rattle.isomorphisms.proofs.searching.+search.Given as goal

abbrev pub decreases-search : goal.decreases-search
decreases-search g l = firsts_of l.a.now.words - length l.images.now

abbrev pub invariant-loop-y : goal.invariant-loop-y
invariant-loop-y g l = record {
  tried : (z : ℕ) → z < l.y
      → NoneTakes (claim_of l.a) (claim_of l.b) (l.images ++ z ∷ []);
  left : l.fn.units
      ≤ l.units
      + alike_below (slice_index l.others) (slice_index l.colours (length l.images + 1)) l.y
      * (1 + lists_of (slice_index l.colours) (slice_index l.others) l.b.order
      (length l.images + 1 + 1) (firsts_of l.a.words - (length l.images + 1)));
}
