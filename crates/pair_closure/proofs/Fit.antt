-- What is made of vectors over a small allocator fits in memory, however many lanes its sets have.
-- Field by field, by the layouts of transition_algebra.
use Rattle.std.proofs.Common.{◌<◌, ◌^◌, ℕ, arith}
use Rattle.std.specs.Borrow.{RattleType}
use Rattle.std.specs.Mem.{type_size}
use Rattle.std.specs.declared.alloc.Allocator as Allocator
use Rattle.allocation.specs.Sizes.{IsSmall}
use Rattle.pair_closure.specs.contracts.members.Members as members
use Rattle.pair_closure.specs.contracts.closure.Closure as closures
use Rattle.transition_algebra.proofs.Layouts.{Takes, field, no_field, of_fields, number, truth, vector}
use mir.Syntax.{w16, w32, w64, w128}
use denote.Param.{layout, param}
use denote.Param as params

-- the list, and the two that chain it
pub members_take : (L : ℕ) (A : RattleType) (alloc : Allocator.Ghosts A.Denot) → IsSmall A
    → Takes 616 (layout (members.the_row (param 0 (params.number L)) (param 1 A) alloc))
members_take L A alloc small =
    of_fields _ _ _
    (field _ _ _ _ (vector _ A small)
    (field _ _ _ _ (vector _ A small) (field _ _ _ _ (vector _ A small) no_field)))

-- the table, the heaps, the limit, the members, those held, the generators, three numbers, and
-- whether memory was refused
pub closure_takes : (L : ℕ) (A : RattleType) (alloc : Allocator.Ghosts A.Denot) → IsSmall A
    → Takes 1657 (layout (closures.the_row (param 0 (params.number L)) (param 1 A) alloc))
closure_takes L A alloc small =
    of_fields _ _ _
    (field _ _ _ _
    (of_fields _ _ _ (field _ _ _ _ (number w16) (field _ _ _ _ (vector _ A small) no_field)))
    (field _ _ _ _ (vector _ A small)
    (field _ _ _ _ (number w32)
    (field _ _ _ _ (members_take L A alloc small)
    (field _ _ _ _ (vector _ A small)
    (field _ _ _ _ (vector _ A small)
    (field _ _ _ _ (number w64)
    (field _ _ _ _ (number w64)
    (field _ _ _ _ (number w128) (field _ _ _ _ truth no_field))))))))))

pub members_fit : (L : ℕ) (A : RattleType) (alloc : Allocator.Ghosts A.Denot) → IsSmall A
    → type_size (members.the_row (param 0 (params.number L)) (param 1 A) alloc) < 2 ^ 63
members_fit L A alloc small = let t = (members_take L A alloc small).bytes in omega arith

pub closure_fits : (L : ℕ) (A : RattleType) (alloc : Allocator.Ghosts A.Denot) → IsSmall A
    → type_size (closures.the_row (param 0 (params.number L)) (param 1 A) alloc) < 2 ^ 63
closure_fits L A alloc small = let t = (closure_takes L A alloc small).bytes in omega arith
