-- A job over sets of at most 64 lanes and a small allocator fits in memory.
-- Field by field, by Layouts.
use Rattle.std.proofs.Common.{◌<◌, ◌≤◌, ◌^◌, ℕ, arith}
use Rattle.std.specs.Borrow.{RattleType}
use Rattle.std.specs.Mem.{type_size}
use Rattle.std.specs.declared.alloc.Allocator as Allocator
use Rattle.allocation.specs.Sizes.{IsSmall}
use Rattle.transition_algebra.specs.contracts.heap_job.HeapJob as jobs
use Rattle.transition_algebra.proofs.Layouts.{Takes, field, no_field, of_fields, variant, no_variant, of_variants, number, truth, array, lanes, vector}
use mir.Syntax.{w8, w16, w64}
use denote.Param.{layout, param}
use denote.Param as params

-- the code, the table, the pretending function, the trial, the pairs, the values of splits and of
-- triples, and whether memory was refused
pub heap_job_takes : (L : ℕ) (A : RattleType) (alloc : Allocator.Ghosts A.Denot) → L ≤ 64
    → IsSmall A → Takes 3005 (layout (jobs.the_row (param 0 (params.number L)) (param 1 A) alloc))
heap_job_takes L A alloc few small =
    of_fields _ _ _
    (field _ _ _ _
    (of_fields _ _ _ (field _ _ _ _ (array w8 17) (field _ _ _ _ (number w8) no_field)))
    (field _ _ _ _
    (of_fields _ _ _ (field _ _ _ _ (number w16) (field _ _ _ _ (vector _ A small) no_field)))
    (field _ _ _ _
    (of_fields _ _ _
    (field _ _ _ _ (number w64)
    (field _ _ _ _ (number w64) (field _ _ _ _ (vector _ A small) no_field))))
    (field _ _ _ _
    (of_fields _ _ _
    (field _ _ _ _ (number w64)
    (field _ _ _ _
    (of_fields _ _ _
    (field _ _ _ _ (number w64)
    (field _ _ _ _ (number w64)
    (field _ _ _ _ (number w64)
    (field _ _ _ _
    (of_variants _ _ _
    (variant _ _ _ _ no_field
    (variant _ _ _ _ (field _ _ _ _ (number w64) no_field)
    (variant _ _ _ _ (field _ _ _ _ (number w64) (field _ _ _ _ (number w64) no_field)) no_variant))))
    no_field)))))
    (field _ _ _ _ (of_fields _ _ _ (field _ _ _ _ (lanes L few) no_field))
    (field _ _ _ _ (number w64) no_field)))))
    (field _ _ _ _ (vector _ A small)
    (field _ _ _ _
    (of_fields _ _ _
    (field _ _ _ _ (vector _ A small) (field _ _ _ _ (vector _ A small) no_field)))
    (field _ _ _ _ truth no_field)))))))

pub heap_job_fits : (L : ℕ) (A : RattleType) (alloc : Allocator.Ghosts A.Denot) → L ≤ 64 → IsSmall A
    → type_size (jobs.the_row (param 0 (params.number L)) (param 1 A) alloc) < 2 ^ 63
heap_job_fits L A alloc few small = let t = (heap_job_takes L A alloc few small).bytes in omega arith
