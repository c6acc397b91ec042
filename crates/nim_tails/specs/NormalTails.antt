-- When misère play of a whole game is normal play, but for positions of some small heaps.
use Rattle.std.specs.Prelude.{◌≡◌, ℕ, ◌+◌, ◌*◌, ◌≤◌, ◌<◌, ◌⊎◌, ◌↔◌, true, bit_xor, List, [], ◌∷◌, length, IsBitSet}
use Rattle.misere_theory.specs.Games.{digit, leaves_three, IsHeap, IsP, IsPosition}
use Rattle.misere_theory.specs.Kinds.{IsHeapIn}
use Rattle.misere_theory.specs.Quotients.{Claim, value}
use Rattle.nim_tails.specs.Normal.{IsNormalP, nim_sum, AreNimValues}

-- x is in the kernel of the monoid, its least ideal: it is a multiple of each element. The usual
-- definition; Plambeck and Siegel.
abbrev pub IsInLeastIdeal : Claim → ℕ → Type 0
IsInLeastIdeal c x =
    (x < c.order) × ((y : ℕ) → y < c.order → (z : ℕ) × (z < c.order) × (c.times y z ≡ x))

-- Some heap of X is above N.
abbrev pub IsSomeAbove : ℕ → List ℕ → Type 0
IsSomeAbove N [] = ⊥
IsSomeAbove N (n ∷ X) = (N < n) ⊎ IsSomeAbove N X

-- X has a heap above N, or it is of the heaps to M alone and its value is in the kernel. This
-- project's own.
abbrev pub IsRegular : ℕ → Claim → ℕ → List ℕ → Type 0
IsRegular M c N X =
    IsSomeAbove N X ⊎ (IsPosition (IsHeapIn M) X × IsInLeastIdeal c (value c X))

-- Each regular position of the whole game, of any number of heaps of any size, has the same outcome
-- in misère play as in normal play. This project's own.
abbrev pub IsNormalAbove : ℕ → List ℕ → Claim → ℕ → Type 0
IsNormalAbove M code c N =
    (X : List ℕ) → IsPosition IsHeap X → IsRegular M c N X → IsP code X ↔ IsNormalP code X

-- The multiples of e are the kernel, a group whose identity is e and in which each element is its own
-- inverse, and e is the one P among them. A regular quotient: Plambeck and Siegel.
pub record IsRegularKernel (c : Claim) (e : ℕ) : Type 0 where
  pub element : e < c.order
  pub idempotent : c.times e e ≡ e
  pub squares : (x : ℕ) → x < c.order → c.times e x ≡ x → c.times x x ≡ e
  pub portion : (x : ℕ) → x < c.order → c.times e x ≡ x → (c.portion x ≡ true) ↔ (x ≡ e)

-- `nim` gives each element the nim sum of a position of the heaps to M with this value. This
-- project's own.
abbrev pub AreNimSums : ℕ → Claim → (ℕ → ℕ) → (ℕ → ℕ) → Type 0
AreNimSums M c G nim =
    (x : ℕ) → x < c.order → (X : List ℕ) × IsPosition (IsHeapIn M) X × (value c X ≡ x)
    × (nim_sum G X ≡ nim x)

-- The kernel is normal play of the heaps to M: an element has one nim sum, whatever the position,
-- and of the kernel e alone has the nim sum 0. A normal quotient: Plambeck and Siegel.
pub record IsNormalKernel (M : ℕ) (code : List ℕ) (c : Claim) (e : ℕ) (G nim : ℕ → ℕ) : Type 0 where
  pub regular : IsRegularKernel c e
  pub values : AreNimValues M code G
  pub empty : nim 0 ≡ 0
  pub heaps : (n x : ℕ) → IsHeapIn M n → x < c.order
      → nim (c.times (c.phi n) x) ≡ bit_xor (G n) (nim x)
  pub one : (x : ℕ) → x < c.order → c.times e x ≡ x → nim x ≡ 0 → x ≡ e

-- The kernel isn't normal play: a position of the heaps to M, whose value is in the kernel, has two
-- outcomes, one in misère play and the other in normal play. This project's own.
abbrev pub HasTwoOutcomes : ℕ → List ℕ → Claim → Type 0
HasTwoOutcomes M code c =
    (X : List ℕ) × IsPosition (IsHeapIn M) X × IsInLeastIdeal c (value c X)
    × (IsP code X ↔ IsNormalP code X → ⊥)

-- A move of a heap above M leaves some heap, and one that is above N. The digits are d0 to dk, of
-- which one has bit 2, 4 or 8; M is at least 2N + k, 3N + k where a move may leave three heaps, and
-- at least k + 2. This project's own.
pub record IsLongEnough (M : ℕ) (code : List ℕ) (N : ℕ) : Type 0 where
  pub two : 2 * N + length code ≤ M + 1
  pub three : leaves_three code ≡ true → 3 * N + length code ≤ M + 1
  pub more : length code + 1 ≤ M
  pub leaves : (j b : ℕ) × (1 ≤ b) × (b ≤ 3) × IsBitSet (digit code j) b
