use Rattle.std.proofs.Common.{◌≡◌, ◌<◌, ℕ}
use Rattle.std.specs.Prelude.{slice_index}
use Rattle.misere_theory.specs.Certificates.{claim_of}
use Rattle.isomorphisms.proofs.checking.keeps_portion.Given as goal

abbrev pub invariant-loop-x : goal.invariant-loop-x
invariant-loop-x g l = (k : ℕ) → k < l.x
    → (claim_of l.b).portion (slice_index l.map k) ≡ (claim_of l.a).portion k
