use Rattle.std.proofs.Common.{◌≡◌, ◌≢◌, ◌<◌, ℕ, Some, None, get_or}
use Rattle.desk.specs.declared.slot.Slot.{Slot}
use Rattle.desk.proofs.slot.is_held.Given as goal

abbrev pub invariant-loop-place : goal.invariant-loop-place
invariant-loop-place l = (i : ℕ) (s : Slot) → i < l.place-index → get_or l.places i None ≡ Some s
    → s.core ≢ l.core
