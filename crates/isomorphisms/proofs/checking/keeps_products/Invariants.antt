use Rattle.std.proofs.Common.{◌<◌, ℕ}
use Rattle.misere_theory.specs.Certificates.{claim_of}
use Rattle.isomorphisms.specs.Maps.{KeepsProducts}
use Rattle.isomorphisms.proofs.checking.keeps_products.Given as goal

abbrev pub invariant-loop-x : goal.invariant-loop-x
invariant-loop-x g l = (k : ℕ) → k < l.x → KeepsProducts (claim_of l.a) (claim_of l.b) l.map k
