-- What a list of options has to do with the options of a heap, which are those of Plambeck and
-- Siegel, and of Siegel. This project's own words.
use Rattle.std.specs.Prelude.{◌≡◌, ℕ, ◌+◌, ◌≤◌, List, [], ◌∷◌, IsBitSet}
use Rattle.misere_theory.specs.Games.{digit}
use Rattle.heap_options.specs.declared.left.Left.{Left}
use Rattle.heap_options.specs.declared.left.Left.TheVariants.{Nothing, One, Two, Three}

-- the heaps that are left
abbrev pub heaps_of : Left → List ℕ
heaps_of Nothing = []
heaps_of (One a) = a ∷ []
heaps_of (Two a b) = a ∷ b ∷ []
heaps_of (Three a b c) = a ∷ b ∷ c ∷ []

-- the parts rise
abbrev pub IsInOrder : Left → Type 0
IsInOrder Nothing = Unit {0}
IsInOrder (One a) = Unit {0}
IsInOrder (Two a b) = a ≤ b
IsInOrder (Three a b c) = (a ≤ b) × (b ≤ c)

-- L is left where the digit dj takes j away from the heap n
abbrev pub IsLeftAt : List ℕ → ℕ → ℕ → Left → Type 0
IsLeftAt code n j Nothing = (1 ≤ j) × (n ≡ j) × IsBitSet (digit code j) 0
IsLeftAt code n j (One a) = (1 ≤ j) × (1 ≤ a) × (n ≡ j + a) × IsBitSet (digit code j) 1
IsLeftAt code n j (Two a b) = (1 ≤ a) × (a ≤ b) × (n ≡ j + (a + b)) × IsBitSet (digit code j) 2
IsLeftAt code n j (Three a b c) =
    (1 ≤ a) × (a ≤ b) × (b ≤ c) × (n ≡ j + (a + b + c)) × IsBitSet (digit code j) 3

-- each part but the largest is at most `most`
abbrev pub IsPartUpTo : ℕ → Left → Type 0
IsPartUpTo most Nothing = Unit {0}
IsPartUpTo most (One a) = Unit {0}
IsPartUpTo most (Two a b) = a ≤ most
IsPartUpTo most (Three a b c) = (a ≤ most) × (b ≤ most)
