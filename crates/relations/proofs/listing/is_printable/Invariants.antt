use Rattle.std.proofs.Common.{◌≡◌, ◌<◌, ◌≤◌, ℕ}
use Rattle.std.specs.Prelude.{slice_index}
use Rattle.presentations.specs.declared.TheConstants.{LARGEST_EXPONENT}
use Rattle.relations.proofs.listing.is_printable.Given as goal

abbrev pub invariant-loop-i : goal.invariant-loop-i
invariant-loop-i l = record {
  few : (k : ℕ) → k < l.i → slice_index l.word k ≤ LARGEST_EXPONENT;
  rest : (k : ℕ) → l.letters ≤ k → k < l.i → slice_index l.word k ≡ 0;
}
