-- Normal play: its outcomes, and the nim values of heaps.
use Rattle.std.specs.Prelude.{◌≡◌, ℕ, ◌<◌, bit_xor, List, [], ◌∷◌}
use Rattle.misere_theory.specs.Games.{HeapOption, Move}
use Rattle.misere_theory.specs.Kinds.{IsHeapIn}

-- Normal play, where whoever makes the last move wins. Conway, 'On Numbers and Games'; Siegel,
-- chapter I.
mutual
  -- the previous player wins: each move leads to a position that the next player wins
  pub data IsNormalP (code : List ℕ) : List ℕ → Type 0 where
    NoneWins : {X : List ℕ} → ((Z : List ℕ) → Move code X Z → IsNormalN code Z) → IsNormalP code X

  -- the next player wins: some move leads to a position that the previous player wins
  pub data IsNormalN (code : List ℕ) : List ℕ → Type 0 where
    OneWins : {X Y : List ℕ} → Move code X Y → IsNormalP code Y → IsNormalN code X

-- The nim sum of a position: the heaps' numbers added without carry, in binary. Bouton.
abbrev pub nim_sum : (ℕ → ℕ) → List ℕ → ℕ
nim_sum G [] = 0
nim_sum G (n ∷ X) = bit_xor (G n) (nim_sum G X)

-- x is the nim sum of an option of the heap n.
abbrev pub IsNimOption : List ℕ → (ℕ → ℕ) → ℕ → ℕ → Type 0
IsNimOption code G n x = (H : List ℕ) × HeapOption code n H × (nim_sum G H ≡ x)

-- m is the least number without a property, the mex of those with it. Sprague; Grundy.
abbrev pub IsMex : (ℕ → Type 0) → ℕ → Type 0
IsMex P m = (P m → ⊥) × ((k : ℕ) → k < m → P k)

-- G gives the heaps of a kind their nim values: each is the mex of the nim sums of the heap's
-- options. For the kind 0 these are all heaps, and G is the nim sequence of the code. Sprague;
-- Grundy; Guy and Smith.
abbrev pub AreNimValues : ℕ → List ℕ → (ℕ → ℕ) → Type 0
AreNimValues M code G = (n : ℕ) → IsHeapIn M n → IsMex (IsNimOption code G n) (G n)
