use Rattle.std.proofs.Common.{◌≡◌, ℕ, ◌<◌, ◌≤◌}
use Rattle.player.specs.Many.{start_at, end_at}
use Rattle.player.proofs.heaps.are_ends.Given as goal

abbrev pub invariant-loop-end : goal.invariant-loop-end
invariant-loop-end l =
    (l.from ≡ start_at l.ends l.end-index)
    × ((i : ℕ) → i < l.end-index
    → (start_at l.ends i ≤ end_at l.ends i) × (end_at l.ends i ≤ l.count))
