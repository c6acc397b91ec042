use Rattle.std.proofs.Common.{ℕ}
use Rattle.std.specs.Prelude.{◌↔◌, IsTrue}
use Rattle.std.specs.FinSet as fin
use Rattle.element_sets.proofs.HitLaws.{IsImageBelow}
use Rattle.element_sets.proofs.LaneSet.translate.Given as goal

abbrev pub invariant-loop-i : goal.invariant-loop-i
invariant-loop-i g l = (q : ℕ) → IsTrue (fin.contains l.all q)
    ↔ IsImageBelow l.self-inside.lanes l.i l.row q
