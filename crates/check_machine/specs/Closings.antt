-- What the last stages hold of the pairs of heaps.
use Rattle.std.specs.Prelude.{◌≡◌, ℕ, ◌+◌, ◌<◌, ◌≤◌, true, false, List, length, All, slice_index_or}
use Rattle.std.specs.FinSet as set
use Rattle.std.specs.Ordering.{nat_cmp}
use Rattle.misere_theory.specs.Games.{IsHeapUpTo}
use Rattle.misere_theory.specs.Quotients.{HeapOptionValue}
use Rattle.misere_theory.specs.Pairs.{IsClosed, KeptObey, ElementsObey}
use Rattle.misere_theory.specs.Pairs as theory
use Rattle.misere_theory.specs.Certificates.{Certificate, Canonical, claim_of, times_of, phi_at}
use Rattle.transition_algebra.specs.OverSets.{Pair}
use Rattle.transition_algebra.specs.Pairs.{IsPair}
use Rattle.transition_algebra.specs.Heaps.{IsHeapPairs}
use Rattle.certificate.specs.Fields.{Fields, certificate_of}
use Rattle.answers.specs.Portions.{IsPortion}
use Rattle.check_machine.specs.LawfulCertificates.{IsLawfulCertificate}
use Rattle.check_machine.specs.Bounds.{bound_of}

-- the pairs are those of the heaps 1 to B
pub record HavePairs (c : Certificate) (pairs : List Pair) : Type 0 where
  pub exact : IsHeapPairs c.code (claim_of c) (bound_of c) pairs
  pub within : All (IsPair c.order) pairs

-- a certificate without faults
pub record IsCanonicalCertificate (p : Fields) : Type 0 where
  pub certificate : IsLawfulCertificate p
  pub canonical : Canonical (certificate_of p)

-- so is it, the set is its portion, and the pairs are those of its heaps, whose options obey the rule
pub record IsClosing (p : Fields) (inside : set.FinSet nat_cmp) (pairs : List Pair) : Type 0 where
  pub certificate : IsLawfulCertificate p
  pub portion : IsPortion (certificate_of p) inside
  pub canonical : Canonical (certificate_of p)
  pub exact : HavePairs (certificate_of p) pairs
  pub elements : ElementsObey (certificate_of p).code (claim_of (certificate_of p))
      (IsHeapUpTo (bound_of (certificate_of p)))

-- some closed list of pairs obeys the rule
pub record IsCovered (c : Certificate) : Type 0 where
  pub kept : List theory.Pair
  pub closed : IsClosed c.code (claim_of c) (IsHeapUpTo (bound_of c)) kept
  pub obey : KeptObey (claim_of c) kept

-- no option of the heap n with the value h leads from the portion into it, whatever element stands
-- beside
abbrev pub ObeysAt : Certificate → ℕ → ℕ → Type 0
ObeysAt c n h = HeapOptionValue c.code (claim_of c) n h → (y : ℕ) → y < c.order
    → (claim_of c).portion (times_of c (phi_at c n) y) ≡ true
    → (claim_of c).portion (times_of c h y) ≡ false

-- some option of the heap n leads from the portion into it, with the element y beside
abbrev pub LeadsIn : Certificate → ℕ → ℕ → Type 0
LeadsIn c n y = (h : ℕ) × HeapOptionValue c.code (claim_of c) n h
    × ((claim_of c).portion (times_of c (phi_at c n) y) ≡ true)
    × ((claim_of c).portion (times_of c h y) ≡ true)

-- set x has the elements that take x into the portion
pub record AreContexts (c : Certificate) (contexts : List (set.FinSet nat_cmp)) : Type 0 where
  pub length_is : length contexts ≡ c.order
  pub each : (x y : ℕ) → x < c.order → set.contains (slice_index_or contexts x set.empty) y ≡ true
      → (y < c.order) × ((claim_of c).portion (times_of c x y) ≡ true)
  pub all : (x y : ℕ) → x < c.order → y < c.order → (claim_of c).portion (times_of c x y) ≡ true
      → set.contains (slice_index_or contexts x set.empty) y ≡ true

-- the heaps below number i + 1 were looked at, and of it the values below h
pub record ElementsSoFar (c : Certificate) (pairs : List Pair)
    (contexts : List (set.FinSet nat_cmp)) (i h : ℕ) : Type 0 where
  pub canonical : Canonical c
  pub exact : HavePairs c pairs
  pub sets : AreContexts c contexts
  pub place : i ≤ length pairs
  pub value : h < c.order
  pub heaps : (n g : ℕ) → 1 ≤ n → n ≤ i → ObeysAt c n g
  pub heap : (g : ℕ) → g < h → ObeysAt c (i + 1) g
