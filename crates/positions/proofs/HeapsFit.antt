-- What keeps the heaps of a position in their room.
use Rattle.std.proofs.Common.{◌≡◌, ◌<◌, ◌^◌, true, false, true≢false, sym, arith}
use Rattle.std.specs.Borrow.{RattleType}
use Rattle.std.specs.Mem.{type_size}
use Rattle.std.specs.Prelude.{Result, Ok, Err, IsOk, OnOk}
use Rattle.std.specs.declared.alloc.Allocator as Allocator
use Rattle.allocation.specs.Sizes.{IsSmall}
use Rattle.smallvec.specs.contracts.small_vec.SmallVec as small_vec
use denote.Builtin.{u64}
use denote.Param.{number, copied}

-- A small vector of eight sizes over a small allocator is smaller than 2^63 bytes. Each call that
-- takes the heaps of a position requires that.
pub heaps_fit : (A : RattleType) (alloc : Allocator.Ghosts A.Denot) → IsSmall A
    → type_size (small_vec.the_row u64 (number 8) (copied 0 A) alloc) < 2 ^ 63
heaps_fit A alloc small = grind (arith, small) steps 2000000

-- a call that succeeds, as it must, hasn't failed
pub not_failed : false ≡ true → ⊥
not_failed ok = true≢false (sym ok)

-- what a call that succeeds ensures of its success
pub on_success : {T E : Type 0} (r : Result T E) (P : Type 0) → IsOk r → OnOk r P → P
on_success (Ok x) P ok h = h
on_success (Err e) P ok h = absurd (cc)
