use Rattle.std.proofs.Common.{◌≡◌, ◌<◌, ℕ, bit_xor}
use Rattle.std.specs.Prelude.{slice_index}
use Rattle.misere_theory.specs.Certificates.{phi_at, times_of}
use Rattle.nim_tails.proofs.elements.agrees.Given as goal

abbrev pub invariant-loop-x : goal.invariant-loop-x
invariant-loop-x l = (k : ℕ) → k < l.x
    → slice_index l.sums (times_of l.certified (phi_at l.certified l.heap) k)
    ≡ bit_xor (slice_index l.values l.heap) (slice_index l.sums k)
