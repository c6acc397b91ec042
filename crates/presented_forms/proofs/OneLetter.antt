-- The exponents of a word of one letter.
use Rattle.std.proofs.Common.{◌≡◌, ◌≢◌, ℕ, ◌<◌}
use Rattle.std.specs.Prelude.{slice_index}
use Rattle.presentations.specs.declared.TheConstants.{LETTERS}
use Rattle.presentations.specs.Vectors.{only}
use Rattle.presentations.proofs.VectorLaws.{only-here, only-other}

pub at_letter : (i k : ℕ) → k < LETTERS → k ≡ i → slice_index (only LETTERS i 1) k ≡ 1
at_letter i k lt is = rw is (only-here LETTERS i 1 (rw (← is) lt))

pub at_other : (i k : ℕ) → k ≢ i → slice_index (only LETTERS i 1) k ≡ 0
at_other i k other = only-other LETTERS i k 1 other
