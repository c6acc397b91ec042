use Rattle.std.proofs.Common.{◌≡◌, ◌<◌, ◌==◌, ℕ}
use Rattle.std.specs.Prelude.{slice_index}
use Rattle.std.specs.List.{list_any}
use Rattle.own_quotients.proofs.carrying.portions_agree.Given as goal

abbrev pub invariant-loop-x : goal.invariant-loop-x
invariant-loop-x l =
    (k : ℕ) → k < l.x
    → list_any (λ y. y == slice_index l.numbers k) l.found ≡ list_any (λ y. y == k) l.portion
