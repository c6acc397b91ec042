-- The heaps that have an element.
use Rattle.std.proofs.Common.{◌≡◌, ◌∙◌, ℕ, suc, ◌+◌, ◌<◌, ◌≤◌, lt-ltb, arith, length}
use Rattle.std.specs.Prelude.{Contains}
use Rattle.std.proofs.lemmas.List.{get_or_default}
use Rattle.misere_theory.specs.Certificates.{Certificate, phi_at}

-- each entry of phi is the element of a heap
pub heap-of : (c : Certificate) (element : ℕ) → length c.phi + 1 ≡ c.start + c.period
    → Contains c.phi element
    → (heap : ℕ) × (1 ≤ heap) × (heap < c.start + c.period) × (phi_at c heap ≡ element)
heap-of c element long (k, lt, is) =
    let low : suc k < c.start + c.period = omega (arith, lt, long) in (
      suc k,
      omega arith,
      low,
      rw (lt-ltb (suc k) (c.start + c.period) low) (get_or_default c.phi k 0 element lt ∙ is),
    )
