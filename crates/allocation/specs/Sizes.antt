-- How much room an allocator itself takes.
use Rattle.std.specs.Prelude.{◌≤◌}
use Rattle.std.specs.Borrow.{RattleType}
use Rattle.std.specs.Mem.{type_size}
use Rattle.std.specs.Align.{type_align}

-- at most 64 bytes, aligned to at most 16
abbrev pub IsSmall : RattleType → Type 0
IsSmall R = (type_size R ≤ 64) × (type_align R ≤ 16)
