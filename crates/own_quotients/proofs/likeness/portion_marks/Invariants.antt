use Rattle.std.proofs.Common.{◌≡◌, ◌==◌, ℕ, false, length, take}
use Rattle.std.specs.Prelude.{slice_index_or}
use Rattle.std.specs.List.{list_any}
use Rattle.own_quotients.proofs.likeness.portion_marks.Given as goal

abbrev pub invariant-loop-x : goal.invariant-loop-x
invariant-loop-x g l =
    (length l.marks.items ≡ l.order)
    × ((x : ℕ) → slice_index_or l.marks.items x false
    ≡ list_any (λ y. y == x) (take l.x-index l.portion))
