use Rattle.std.proofs.Common.{◌≡◌, ◌++◌, take, decimal, slice_index, string_bytes}
use Rattle.positions.specs.Text.{text_behind}
use Rattle.positions.proofs.position.Position.text.Given as goal

abbrev pub invariant-loop-heap : goal.invariant-loop-heap
invariant-loop-heap g l = string_bytes l.text ≡ decimal (slice_index l.self 0)
    ++ text_behind (take l.heap-index l.others)
