-- What is told of a game that is normal play beyond some heap, and why nothing is. This project's own,
-- after the regular and normal quotients of Plambeck and Siegel.
use Rattle.std.specs.Prelude.{◌≡◌, ℕ, ◌+◌, ◌≤◌, ◌<◌, ◌↔◌, true, bit_xor, List, length, slice_index, codes, Option, Some, None}
use Rattle.misere_theory.specs.Certificates.{Certificate, claim_of, kind_of, phi_at, times_of}
use Rattle.misere_theory.specs.Kinds.{IsHeapIn}
use Rattle.misere_theory.specs.Quotients.{Claim}
use Rattle.nim_tails.specs.declared.TheConstants.{NIM_BOUND}
use Rattle.nim_tails.specs.declared.values_fault.NimFault.{NimFault}
use Rattle.nim_tails.specs.declared.values_fault.NimFault.TheVariants as nim
use Rattle.nim_tails.specs.Normal.{AreNimValues}
use Rattle.nim_tails.specs.NormalTails.{IsInLeastIdeal, IsNormalAbove, IsNormalKernel, AreNimSums, HasTwoOutcomes, IsLongEnough}
use Rattle.nim_tails.specs.declared.whole.Tail.{Tail}
use Rattle.nim_tails.specs.declared.fault.TailFault.{TailFault}
use Rattle.nim_tails.specs.declared.fault.TailFault.TheVariants.{Full, Ideal, Length, Large, Nim, Zero, Memory}

-- Of the numbers below n so many have a property.
pub data Counts (P : ℕ → Type 0) : ℕ → ℕ → Type 0 where
  NoNumber : Counts P 0 0
  OneMore : {n k : ℕ} → P n → Counts P n k → Counts P (n + 1) (k + 1)
  NoMore : {n k : ℕ} → (P n → ⊥) → Counts P n k → Counts P (n + 1) k

-- The element of the heap n is in the kernel.
abbrev pub IsInside : Certificate → ℕ → Type 0
IsInside c n = IsInLeastIdeal (claim_of c) (phi_at c n)

-- N is the last heap of the certificate whose element is outside the kernel, and 0 if there is none.
abbrev pub IsLastOutside : Certificate → ℕ → Type 0
IsLastOutside c N =
    (N ≤ kind_of c) × (1 ≤ N → IsInside c N → ⊥) × ((n : ℕ) → N < n → n ≤ kind_of c → IsInside c n)

-- Each position of the whole game with a heap above t.above, and each of the certificate's heaps whose
-- value is in the kernel, has the same outcome in misère play as in normal play. The heap t.above is
-- the last whose element is outside the kernel, and t.outside elements are.
pub record IsTail (c : Certificate) (t : Tail) : Type 0 where
  pub normal : IsNormalAbove (kind_of c) c.code (claim_of c) t.above
  pub last : IsLastOutside c t.above
  pub outside : Counts (λ x. IsInLeastIdeal (claim_of c) x → ⊥) c.order t.outside

-- x is its own cube, and P exactly if it is its own square: so it is in a group of squares, and P
-- exactly if it is the identity.
abbrev pub IsSquareRoot : Claim → ℕ → Type 0
IsSquareRoot c x =
    (c.times (c.times x x) x ≡ x) × ((c.portion x ≡ true) ↔ (c.times x x ≡ x))

-- `sums` are nim sums of positions with the elements' values, by the heaps' nim values, and 0 for the
-- element 0.
abbrev pub AreElementSums : Certificate → List ℕ → List ℕ → Type 0
AreElementSums c values sums =
    (length sums ≡ c.order) × (slice_index sums 0 ≡ 0)
    × AreNimSums (kind_of c) (claim_of c) (slice_index values) (slice_index sums)

-- With the heap n each element has its nim sum and the heap's nim value, added.
abbrev pub AgreesWith : Certificate → List ℕ → List ℕ → ℕ → Type 0
AgreesWith c values sums n =
    (x : ℕ) → x < c.order
    → slice_index sums (times_of c (phi_at c n) x) ≡ bit_xor (slice_index values n) (slice_index sums x)

-- If x is a multiple of e and has the nim sum 0, it is e.
abbrev pub IsOnlyZero : Certificate → List ℕ → ℕ → ℕ → Type 0
IsOnlyZero c sums e x = times_of c e x ≡ x → slice_index sums x ≡ 0 → x ≡ e

-- The kernel, whose identity is e, is normal play.
abbrev pub IsNormal : Certificate → ℕ → Type 0
IsNormal c e =
    (G nim : ℕ → ℕ) × IsNormalKernel (kind_of c) c.code (claim_of c) e G nim

-- What is true of the certificate for each fault.
abbrev pub IsTailFault : Certificate → TailFault → Type 0
IsTailFault c Full = kind_of c ≡ 0
IsTailFault c (Ideal x) =
    IsInLeastIdeal (claim_of c) x × (IsSquareRoot (claim_of c) x → ⊥)
IsTailFault c (Length N) = IsLastOutside c N × (IsLongEnough (kind_of c) c.code N → ⊥)
IsTailFault c (Large n) =
    IsHeapIn (kind_of c) n × ((G : ℕ → ℕ) → AreNimValues 0 c.code G → NIM_BOUND ≤ G n)
IsTailFault c (Nim n) = IsHeapIn (kind_of c) n × HasTwoOutcomes (kind_of c) c.code (claim_of c)
IsTailFault c (Zero x) =
    IsInLeastIdeal (claim_of c) x × HasTwoOutcomes (kind_of c) c.code (claim_of c)
IsTailFault c Memory = Unit {0}

-- the fault of a certificate that one of its nim values makes
abbrev pub tail_fault_from : NimFault → TailFault
tail_fault_from (nim.Large n) = Large n
tail_fault_from nim.Memory = Memory

-- the number of a fault
abbrev pub tail_fault_number : TailFault → ℕ
tail_fault_number Full = 41
tail_fault_number (Ideal x) = 42
tail_fault_number (Length N) = 43
tail_fault_number (Large n) = 44
tail_fault_number (Nim n) = 45
tail_fault_number (Zero x) = 46
tail_fault_number Memory = 9

-- its name
abbrev pub tail_fault_name : TailFault → List ℕ
tail_fault_name Full = codes "Full"
tail_fault_name (Ideal x) = codes "Ideal"
tail_fault_name (Length N) = codes "Length"
tail_fault_name (Large n) = codes "Large"
tail_fault_name (Nim n) = codes "Nim"
tail_fault_name (Zero x) = codes "Zero"
tail_fault_name Memory = codes "Memory"

-- the heap or the element that it names
abbrev pub tail_fault_place : TailFault → Option ℕ
tail_fault_place Full = None
tail_fault_place (Ideal x) = Some x
tail_fault_place (Length N) = Some N
tail_fault_place (Large n) = Some n
tail_fault_place (Nim n) = Some n
tail_fault_place (Zero x) = Some x
tail_fault_place Memory = None
