use Rattle.std.proofs.Common.{◌<◌, ℕ}
use Rattle.misere_theory.specs.Certificates.{claim_of, times_of}
use Rattle.nim_tails.specs.Tails.{IsSquareRoot}
use Rattle.nim_tails.proofs.kernel.first_other.Given as goal

abbrev pub invariant-loop-y : goal.invariant-loop-y
invariant-loop-y l = (k : ℕ) → k < l.y → IsSquareRoot (claim_of l.certified) (times_of l.certified l.low k)
