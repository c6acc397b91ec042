-- How many bytes a type takes at most, put together from what its parts take, each aligned to at most 16.
-- Before each field stand at most 16 bytes of padding.
use Rattle.std.proofs.Common.{◌≤◌, ◌+◌, ◌*◌, ◌%◌, ◌-◌, ℕ, List, arith}
use Rattle.std.proofs.Math.Nat.{mod-le}
use prog.Memory.{size, align, aligns, alignss, end_of, endss, up}
use mir.Syntax.{Ty, Tys, tnil, tcons, Tyss, ttnil, ttcons, ty_struct, ty_enum, ty_int, ty_bool, ty_ptr, ty_array, Width, w8, w16, w32, w64, w128}
use denote.Param.{layout}
use Rattle.std.specs.Borrow.{RattleType}
use Rattle.allocation.specs.Sizes.{IsSmall}

-- the type takes at most n bytes
pub record Takes (n : ℕ) (τ : Ty) : Type 0 where
  pub bytes : size τ ≤ n
  pub aligned : align τ ≤ 16

-- so do these fields, behind whatever stands before them
pub record FieldsTake (n : ℕ) (τs : Tys) : Type 0 where
  pub bytes : (e : ℕ) → end_of e τs ≤ e + n
  pub aligned : aligns τs ≤ 16

-- so do these variants, with their tag
pub record VariantsTake (n : ℕ) (τss : Tyss) : Type 0 where
  pub bytes : endss τss ≤ n
  pub aligned : alignss τss ≤ 16

padded : (k e : ℕ) → k ≤ 16 → up k e ≤ e + 16
padded k e l = let m = mod-le (k - e % k) k in omega arith

pub no_field : FieldsTake 0 tnil
no_field = record { bytes = λ e. omega arith; aligned = omega arith }

pub field : (τ : Ty) (τs : Tys) (a n : ℕ) → Takes a τ → FieldsTake n τs
    → FieldsTake (a + 16 + n) (tcons τ τs)
field τ τs a n t ts = record {
  bytes = λ e. (let p = padded (align τ) e t.aligned in let s = t.bytes in
      let r = ts.bytes (up (align τ) e + size τ) in omega arith);
  aligned = (let s = t.aligned in let r = ts.aligned in omega arith);
}

pub of_fields : (ν : List ℕ) (τs : Tys) (n : ℕ) → FieldsTake n τs → Takes (n + 16) (ty_struct ν τs)
of_fields ν τs n ts = record {
  bytes = (let p = padded (aligns τs) (end_of 0 τs) ts.aligned in let r = ts.bytes 0 in omega arith);
  aligned = ts.aligned;
}

pub no_variant : VariantsTake 1 ttnil
no_variant = record { bytes = omega arith; aligned = omega arith }

pub variant : (τs : Tys) (τss : Tyss) (a n : ℕ) → FieldsTake a τs → VariantsTake n τss
    → VariantsTake (a + 1 + n) (ttcons τs τss)
variant τs τss a n t ts = record {
  bytes = (let r = t.bytes 1 in let s = ts.bytes in omega arith);
  aligned = (let r = t.aligned in let s = ts.aligned in omega arith);
}

pub of_variants : (ν : List ℕ) (τss : Tyss) (n : ℕ) → VariantsTake n τss
    → Takes (n + 16) (ty_enum ν τss)
of_variants ν τss n ts = record {
  bytes = (let p = padded (alignss τss) (endss τss) ts.aligned in let r = ts.bytes in omega arith);
  aligned = ts.aligned;
}

pub number : (w : Width) → Takes 16 (ty_int w)
number w8 = record { bytes = omega arith; aligned = omega arith }
number w16 = record { bytes = omega arith; aligned = omega arith }
number w32 = record { bytes = omega arith; aligned = omega arith }
number w64 = record { bytes = omega arith; aligned = omega arith }
number w128 = record { bytes = omega arith; aligned = omega arith }

pub truth : Takes 1 ty_bool
truth = record { bytes = omega arith; aligned = omega arith }

pub pointer : Takes 8 ty_ptr
pointer = record { bytes = omega arith; aligned = omega arith }

pub array : (w : Width) (n : ℕ) → Takes (n * 16) (ty_array (ty_int w) n)
array w8 n = record { bytes = omega arith; aligned = omega arith }
array w16 n = record { bytes = omega arith; aligned = omega arith }
array w32 n = record { bytes = omega arith; aligned = omega arith }
array w64 n = record { bytes = omega arith; aligned = omega arith }
array w128 n = record { bytes = omega arith; aligned = omega arith }

-- what takes at most so much takes at most more
pub more : (τ : Ty) (m n : ℕ) → m ≤ n → Takes m τ → Takes n τ
more τ m n l t = record { bytes = (let b = t.bytes in omega arith); aligned = t.aligned }

-- a small allocator
pub allocator : (A : RattleType) → IsSmall A → Takes 64 (layout A)
allocator A small = record { bytes = small.0; aligned = small.1 }

-- a vector over it, whatever its items
pub vector : (ν : List ℕ) (A : RattleType) → IsSmall A
    → Takes 184
    (ty_struct ν (tcons ty_ptr (tcons (ty_int w64) (tcons (ty_int w64) (tcons (layout A) tnil)))))
vector ν A small =
    of_fields _ _ _ (field _ _ _ _ pointer (field _ _ _ _ (number w64) (field _ _ _ _ (number w64)
    (field _ _ _ _ (allocator A small) no_field))))

-- the lanes of a set that has at most 64
pub lanes : (L : ℕ) → L ≤ 64 → Takes 1024 (ty_array (ty_int w64) L)
lanes L few = more _ (L * 16) 1024 (omega (arith, few)) (array w64 L)
