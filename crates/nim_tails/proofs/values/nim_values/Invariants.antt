use Rattle.std.proofs.Common.{◌≡◌, ℕ, ◌+◌, ◌≤◌, ◌<◌, length, All}
use Rattle.std.specs.Prelude.{slice_index}
use Rattle.nim_tails.specs.Normal.{IsMex, IsNimOption}
use Rattle.nim_tails.specs.declared.TheConstants.{NIM_BOUND}
use Rattle.nim_tails.proofs.values.nim_values.Given as goal

abbrev pub invariant-loop-before : goal.invariant-loop-before
invariant-loop-before l = record {
  long : length l.values.items ≡ l.before + 1;
  low : All (λ x. x < NIM_BOUND) l.values.items;
  mex : (n : ℕ) → 1 ≤ n → n ≤ l.before
      → IsMex (IsNimOption l.code (slice_index l.values.items) n) (slice_index l.values.items n);
}
