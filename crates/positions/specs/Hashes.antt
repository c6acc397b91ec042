-- Equal lists of sizes feed a hasher alike.
use Rattle.std.specs.Prelude.{◌≡◌, ℕ, List, IsTrue, nat_eq}
use Rattle.std.proofs.Common.{ap, refl}
use Rattle.std.proofs.lemmas.Bool.Decides.{Decides-eqb}
use Rattle.std.proofs.lemmas.Slice.Eq.{slice_eq-Decides}
use Rattle.std.specs.Cmp.Lexicographic.{pointwise}
use Rattle.std.specs.Hash as fed

pub same_hashes : (xs ys : List ℕ) → IsTrue (pointwise nat_eq xs ys)
    → fed.slice fed.u64 xs ≡ fed.slice fed.u64 ys
same_hashes xs ys e =
    ap (fed.slice fed.u64) ((slice_eq-Decides Decides-eqb xs ys (pointwise nat_eq xs ys) refl).0 e)
