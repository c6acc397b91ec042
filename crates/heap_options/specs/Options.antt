-- The options of a heap, as a list in their order. The options are those of Plambeck and Siegel,
-- 'Misère quotients for impartial games', and of Siegel, 'Combinatorial Game Theory'; their order
-- is this project's own. The law options_are_exact ties the list to the theory.
use Rattle.std.specs.Prelude.{ℕ, ◌+◌, ◌-◌, ◌/◌, Bool, cond, List, [], ◌∷◌, ◌++◌, length, map, min}
use Rattle.std.specs.List.{flat_map, range_with_len}
use Rattle.octal_code.specs.Bits.{allows, takes_all, leaves_one}
use Rattle.octal_code.specs.declared.leaving.Leaving.TheVariants.{TwoHeaps, ThreeHeaps}
use Rattle.heap_options.specs.declared.left.Left.{Left}
use Rattle.heap_options.specs.declared.left.Left.TheVariants.{Nothing, One, Two, Three}

-- xs where the test holds
abbrev pub where_holds : Bool → List Left → List Left
where_holds test xs = cond test xs []

-- bit 1: the whole heap n may be taken as j
abbrev pub nothing_left : List ℕ → ℕ → ℕ → List Left
nothing_left code n j = where_holds (takes_all code n j) (Nothing ∷ [])

-- bit 2: one heap stays where j is taken away
abbrev pub one_left : List ℕ → ℕ → ℕ → List Left
one_left code n j = where_holds (leaves_one code n j) (One (n - j) ∷ [])

-- `count` pairs of parts of m, whose smaller parts rise from a
abbrev pub splits : ℕ → ℕ → ℕ → List Left
splits m a count = map (λ b. Two b (m - b)) (range_with_len a count)

-- bit 4: two heaps stay, the smaller part from 1 to half of what stays, and at most `most`
abbrev pub two_left : List ℕ → ℕ → ℕ → ℕ → List Left
two_left code n most j =
    where_holds (allows code j TwoHeaps) (splits (n - j) 1 (min ((n - j) / 2) most))

-- `count` triples of parts of m with the first part a, whose second parts rise from b
abbrev pub row : ℕ → ℕ → ℕ → ℕ → List Left
row m a b count = map (λ c. Three a c (m - a - c)) (range_with_len b count)

-- the largest first part of the triples of m whose parts rise and are at most `most` but the third
abbrev pub last_first : ℕ → ℕ → ℕ
last_first m most = min (m / 3) most

-- the largest second part beside the first part a
abbrev pub last_second : ℕ → ℕ → ℕ → ℕ
last_second m most a = min ((m - a) / 2) most

-- those triples with the first part a
abbrev pub triples_at : ℕ → ℕ → ℕ → List Left
triples_at m most a = row m a a (last_second m most a + 1 - a)

-- those with the first part from a on
abbrev pub triples : ℕ → ℕ → ℕ → List Left
triples m most a = flat_map (triples_at m most) (range_with_len a (last_first m most + 1 - a))

-- bit 8: three heaps stay, their parts rising, the first and the second at most `most`
abbrev pub three_left : List ℕ → ℕ → ℕ → ℕ → List Left
three_left code n most j = where_holds (allows code j ThreeHeaps) (triples (n - j) most 1)

-- the options that take j away
abbrev pub options_at : List ℕ → ℕ → ℕ → ℕ → List Left
options_at code n most j =
    nothing_left code n j
    ++ (one_left code n j ++ (two_left code n most j ++ three_left code n most j))

-- the options whose parts but the largest are at most `most`: j rising from 0; for one j the bits 1,
-- 2, 4 and 8; the first part rising, and then the second
abbrev pub options_up_to : List ℕ → ℕ → ℕ → List Left
options_up_to code n most = flat_map (options_at code n most) (range_with_len 0 (length code))

-- all options, in this order: no part is above n
abbrev pub options_of : List ℕ → ℕ → List Left
options_of code n = options_up_to code n n
