use Rattle.std.proofs.Common.{◌≡◌, ◌<◌, ℕ, true, false}
use Rattle.std.specs.Prelude.{slice_index_or}
use Rattle.own_quotients.specs.Marked.{AreClosedAt}
use Rattle.own_quotients.proofs.reaching.are_closed.Given as goal

abbrev pub invariant-loop-x : goal.invariant-loop-x
invariant-loop-x g l =
    (k : ℕ) → k < l.x → slice_index_or l.marks k false ≡ true → AreClosedAt l.table l.marks k
