use Rattle.std.proofs.Common.{◌≡◌, ℕ, ◌<◌, true, length}
use Rattle.std.specs.List.{slice_index_or}
use Rattle.std.specs.FinSet as set
use Rattle.misere_theory.specs.Certificates.{claim_of, times_of}
use Rattle.checker.proofs.contexts.contexts.Given as goal

abbrev pub invariant-loop-x : goal.invariant-loop-x
invariant-loop-x g l = record {
  count : length l.all.items ≡ l.x;
  each : (x y : ℕ) → x < l.x → set.contains (slice_index_or l.all.items x set.empty) y ≡ true
      → (y < l.certificate.order) × ((claim_of l.certificate).portion (times_of l.certificate x y) ≡ true);
  every : (x y : ℕ) → x < l.x → y < l.certificate.order
      → (claim_of l.certificate).portion (times_of l.certificate x y) ≡ true
      → set.contains (slice_index_or l.all.items x set.empty) y ≡ true;
}
