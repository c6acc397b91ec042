use Rattle.std.proofs.Common.{◌≡◌, ◌<◌, ℕ}
use Rattle.misere_theory.specs.Certificates.{times_of}
use Rattle.nim_tails.proofs.kernel.lowest.Given as goal

abbrev pub invariant-loop-x : goal.invariant-loop-x
invariant-loop-x l = record {
  within : l.all < l.certified.order;
  each : (y : ℕ) → y < l.x → (z : ℕ) × (z < l.certified.order) × (times_of l.certified y z ≡ l.all);
}
