use Rattle.std.proofs.Common.{◌≡◌, ◌≤◌, ◌-◌, length, drop, All}
use Rattle.presentations.specs.declared.TheConstants.{LETTERS, LARGEST_EXPONENT}
use Rattle.presentations.proofs.Reading.{IsReadSoFar}
use Rattle.presentations.proofs.read.factors_at.Given as goal

abbrev pub invariant-loop-letter : goal.invariant-loop-letter
invariant-loop-letter l = record {
  after : l.at ≤ l.end;
  within : l.end ≤ length l.text;
  long : length l.exponents ≡ LETTERS;
  few : All (λ x. x ≤ LARGEST_EXPONENT) l.exponents;
  so_far : IsReadSoFar (drop l.at l.text) (drop l.end l.text) l.exponents;
}

abbrev pub decreases-loop-letter : goal.decreases-loop-letter
decreases-loop-letter l = length l.text - l.end
