use Rattle.std.proofs.Common.{◌≢◌, ◌<◌, ◌≤◌, ℕ}
use Rattle.misere_theory.specs.Certificates.{phi_at}
use Rattle.descriptions.proofs.finding.first_heap.Given as goal

abbrev pub invariant-loop-heap : goal.invariant-loop-heap
invariant-loop-heap l =
    (k : ℕ) → 1 ≤ k → k < l.heap → phi_at l.certified k ≢ l.element
