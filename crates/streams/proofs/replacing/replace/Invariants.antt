use Rattle.std.proofs.Common.{◌≡◌, ℕ, ◌≤◌, ◌<◌}
use Rattle.streams.specs.Disks.{IsTaken, name_beside}
use Rattle.streams.proofs.replacing.replace.Given as goal

abbrev pub invariant-loop-number : goal.invariant-loop-number
invariant-loop-number g l =
    (g.D.Disk.files l.disk ≡ g.D.Disk.files l.fn.disk)
    × (g.D.Disk.failures l.disk ≡ g.D.Disk.failures l.fn.disk)
    × ((k : ℕ) → 1 ≤ k → k < l.number → IsTaken (g.D.Disk.files l.fn.disk) (name_beside l.name k))
