-- The bits of a code's digits, and what they allow. The meaning of the bits 1, 2 and 4 is that of
-- Plambeck and Siegel, and of Siegel, 'Combinatorial Game Theory'; of the bit 8 that of Siegel. These
-- are tests, for the lists of options; the contracts of the functions that answer them say the same
-- by IsBitSet, as the theory does.
use Rattle.std.specs.Prelude.{ℕ, Bool, not, ◌&&◌, eqb, ltb, bit_and, List}
use Rattle.misere_theory.specs.Games.{digit}
use Rattle.octal_code.specs.declared.leaving.Leaving.{Leaving}
use Rattle.octal_code.specs.declared.leaving.Leaving.TheVariants.{NoHeap, OneHeap, TwoHeaps, ThreeHeaps}

-- the bit that allows so much to stay
abbrev pub bit_of : Leaving → ℕ
bit_of NoHeap = 1
bit_of OneHeap = 2
bit_of TwoHeaps = 4
bit_of ThreeHeaps = 8

-- which bit it is, counted from 0
abbrev pub place_of : Leaving → ℕ
place_of NoHeap = 0
place_of OneHeap = 1
place_of TwoHeaps = 2
place_of ThreeHeaps = 3

-- whether the digit dj allows so much to stay
abbrev pub allows : List ℕ → ℕ → Leaving → Bool
allows code j leaving = not (eqb (bit_and (digit code j) (bit_of leaving)) 0)

-- the whole heap n may be taken as j
abbrev pub takes_all : List ℕ → ℕ → ℕ → Bool
takes_all code n j = allows code j NoHeap && not (eqb j 0) && eqb n j

-- one heap may stay where j is taken away
abbrev pub leaves_one : List ℕ → ℕ → ℕ → Bool
leaves_one code n j = allows code j OneHeap && not (eqb j 0) && ltb j n
