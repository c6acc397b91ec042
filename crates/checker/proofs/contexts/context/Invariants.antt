use Rattle.std.proofs.Common.{◌≡◌, ℕ, ◌<◌, true}
use Rattle.std.specs.FinSet as set
use Rattle.misere_theory.specs.Certificates.{claim_of, times_of}
use Rattle.checker.proofs.contexts.context.Given as goal

abbrev pub invariant-loop-y : goal.invariant-loop-y
invariant-loop-y g l = record {
  each : (y : ℕ) → set.contains l.all y ≡ true
      → (y < l.y) × ((claim_of l.certificate).portion (times_of l.certificate l.x y) ≡ true);
  every : (y : ℕ) → y < l.y → (claim_of l.certificate).portion (times_of l.certificate l.x y) ≡ true
      → set.contains l.all y ≡ true;
}
