use Rattle.std.proofs.Common.{◌≡◌, ◌<◌, ◌≤◌, ℕ}
use Rattle.misere_theory.specs.Certificates.{kind_of, phi_at, times_of}
use Rattle.nim_tails.proofs.kernel.last_outside.Given as goal

abbrev pub invariant-loop-heap : goal.invariant-loop-heap
invariant-loop-heap l = record {
  within : l.heap ≤ kind_of l.certified;
  inside : (n : ℕ) → l.heap < n → n ≤ kind_of l.certified
      → times_of l.certified l.one (phi_at l.certified n) ≡ phi_at l.certified n;
}

abbrev pub decreases-loop-heap : goal.decreases-loop-heap
decreases-loop-heap l = l.heap
