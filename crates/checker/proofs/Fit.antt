-- The stages over pairs fit in memory, at most 64 lanes wide and over a small allocator.
-- A size is put together from the sizes of the parts.
use Rattle.std.proofs.Common.{◌<◌, ◌≤◌, ◌^◌, ℕ, List, arith}
use Rattle.std.specs.Borrow.{RattleType}
use Rattle.std.specs.Mem.{type_size}
use Rattle.std.specs.declared.alloc.Allocator as Allocator
use Rattle.allocation.specs.Sizes.{IsSmall}
use Rattle.checker.specs.contracts.heaps.Heaps as heaps
use Rattle.checker.specs.contracts.elements.Elements as elements
use Rattle.checker.specs.contracts.closing.Closing as closings
use Rattle.checker.specs.contracts.paired.Paired as paireds
use Rattle.transition_algebra.proofs.Layouts.{Takes, field, no_field, of_fields, variant, no_variant, of_variants, number, array, lanes, vector}
use Rattle.transition_algebra.proofs.Fit.{heap_job_takes}
use Rattle.pair_closure.proofs.Fit.{closure_takes}
use Rattle.checker.specs.contracts.lines.Lines as lines
use Rattle.checker.specs.contracts.lawful_certificate.LawfulCertificate as certificates
use prog.Memory.{size, endss}
use mir.Syntax.{Ty, Tys, Tyss, tcons, tnil, ttcons, ty_enum, w8, w16, w64}
use denote.Param.{layout, param}
use denote.Param as params

fitting : (τ : Ty) (n : ℕ) → Takes n τ → n < 2 ^ 63 → size τ < 2 ^ 63
fitting τ n t l = let b = t.bytes in omega arith

module _ (A : RattleType) (alloc : Allocator.Ghosts A.Denot) (small : IsSmall A) where
  -- the portion, the keys and the separating elements
  lines_take : Takes 616 (layout (lines.the_row (param 0 A) alloc))
  lines_take =
      of_fields _ _ _
      (field _ _ _ _ (vector _ A small)
      (field _ _ _ _ (vector _ A small) (field _ _ _ _ (vector _ A small) no_field)))

  -- the code, the table, the pretending function and the lines
  certificate_takes : Takes 1560 (layout (certificates.the_row (param 0 A) alloc))
  certificate_takes =
      of_fields _ _ _
      (field _ _ _ _
      (of_fields _ _ _ (field _ _ _ _ (array w8 17) (field _ _ _ _ (number w8) no_field)))
      (field _ _ _ _
      (of_fields _ _ _ (field _ _ _ _ (number w16) (field _ _ _ _ (vector _ A small) no_field)))
      (field _ _ _ _
      (of_fields _ _ _
      (field _ _ _ _ (number w64)
      (field _ _ _ _ (number w64) (field _ _ _ _ (vector _ A small) no_field))))
      (field _ _ _ _ lines_take no_field))))

  module _ (L : ℕ) (few : L ≤ 64) where
    heaps_take : Takes 3669 (layout (heaps.the_row (param 0 (params.number L)) (param 1 A) alloc))
    heaps_take =
        of_fields _ _ _
        (field _ _ _ _ lines_take
        (field _ _ _ _ (heap_job_takes L A alloc few small) no_field))

    elements_take : Takes 2056 (layout (elements.the_row (param 0 (params.number L)) (param 1 A) alloc))
    elements_take =
        of_fields _ _ _
        (field _ _ _ _ certificate_takes
        (field _ _ _ _ (vector _ A small)
        (field _ _ _ _ (vector _ A small)
        (field _ _ _ _ (number w64) (field _ _ _ _ (number w16) no_field)))))

    closing_takes : Takes 4041 (layout (closings.the_row (param 0 (params.number L)) (param 1 A) alloc))
    closing_takes =
        of_fields _ _ _
        (field _ _ _ _
        (of_fields _ _ _ (field _ _ _ _ (array w8 17) (field _ _ _ _ (number w8) no_field)))
        (field _ _ _ _
        (of_fields _ _ _
        (field _ _ _ _ (number w64)
        (field _ _ _ _ (number w64) (field _ _ _ _ (vector _ A small) no_field))))
        (field _ _ _ _ lines_take
        (field _ _ _ _ (of_fields _ _ _ (field _ _ _ _ (lanes L few) no_field))
        (field _ _ _ _ (closure_takes L A alloc small) no_field)))))

    paired_takes : Takes 9834 (layout (paireds.the_row (param 0 (params.number L)) (param 1 A) alloc))
    paired_takes =
        of_variants _ _ _
        (variant _ _ _ _ (field _ _ _ _ heaps_take no_field)
        (variant _ _ _ _ (field _ _ _ _ elements_take no_field)
        (variant _ _ _ _ (field _ _ _ _ closing_takes no_field) no_variant)))

    pub heaps_fits : type_size (heaps.the_row (param 0 (params.number L)) (param 1 A) alloc) < 2 ^ 63
    heaps_fits = fitting _ 3669 heaps_take (omega arith)

    pub elements_fits : type_size (elements.the_row (param 0 (params.number L)) (param 1 A) alloc) < 2 ^ 63
    elements_fits = fitting _ 2056 elements_take (omega arith)

    pub closing_fits : type_size (closings.the_row (param 0 (params.number L)) (param 1 A) alloc) < 2 ^ 63
    closing_fits = fitting _ 4041 closing_takes (omega arith)

    pub paired_fits : type_size (paireds.the_row (param 0 (params.number L)) (param 1 A) alloc) < 2 ^ 63
    paired_fits = fitting _ 9834 paired_takes (omega arith)

-- What a variant holds is no larger than the whole.
pub record Below (τ : Ty) : Type 0 where
  pub bytes : size τ < 2 ^ 63

pub record VariantsBelow (τss : Tyss) : Type 0 where
  pub bytes : endss τss < 2 ^ 63

variants_below : (ν : List ℕ) (τss : Tyss) → Below (ty_enum ν τss) → VariantsBelow τss
variants_below ν τss t = record { bytes = let b = t.bytes in omega arith }

first_below : (τ : Ty) (τss : Tyss) → VariantsBelow (ttcons (tcons τ tnil) τss) → size τ < 2 ^ 63
first_below τ τss t = let b = t.bytes in omega arith

later_below : (τs : Tys) (τss : Tyss) → VariantsBelow (ttcons τs τss) → VariantsBelow τss
later_below τs τss t = record { bytes = let b = t.bytes in omega arith }

module _ (L : ℕ) (A : RattleType) (alloc : Allocator.Ghosts A.Denot)
    (whole : type_size (paireds.the_row (param 0 (params.number L)) (param 1 A) alloc) < 2 ^ 63) where
  paired_below : Below (layout (paireds.the_row (param 0 (params.number L)) (param 1 A) alloc))
  paired_below = record { bytes = whole }

  pub heaps_below : type_size (heaps.the_row (param 0 (params.number L)) (param 1 A) alloc) < 2 ^ 63
  heaps_below = first_below _ _ (variants_below _ _ paired_below)

  pub elements_below : type_size (elements.the_row (param 0 (params.number L)) (param 1 A) alloc)
      < 2 ^ 63
  elements_below = first_below _ _ (later_below _ _ (variants_below _ _ paired_below))

  pub closing_below : type_size (closings.the_row (param 0 (params.number L)) (param 1 A) alloc)
      < 2 ^ 63
  closing_below =
      first_below _ _ (later_below _ _ (later_below _ _ (variants_below _ _ paired_below)))
