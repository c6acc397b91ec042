use Rattle.std.proofs.Common.{◌≡◌, ◌++◌, map, take, drop}
use Rattle.std.specs.Prelude.{slice_index}
use Rattle.compact_certificates.proofs.products.read_at.Given as goal

-- the numbers up to i are replaced, and the others stand
abbrev pub invariant-loop-i : goal.invariant-loop-i
invariant-loop-i l =
    l.numbers ≡ map (slice_index l.row) (take l.i l.initial.numbers) ++ drop l.i l.initial.numbers
