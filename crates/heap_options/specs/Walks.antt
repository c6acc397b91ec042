-- A walk over the options of a heap, in their order: for each number that is taken away, first the
-- option that leaves at most one heap, then the splits, then the triples. This project's own.
use Rattle.std.specs.Prelude.{◌≡◌, ℕ, ◌+◌, ◌-◌, ◌*◌, ◌/◌, ◌<◌, if◌then◌else◌, List, ◌∷◌, ◌++◌, length, min, Option}
use Rattle.std.specs.Option.{MatchOption}
use Rattle.std.specs.List.{flat_map, range_with_len}
use Rattle.octal_code.specs.Bits.{allows}
use Rattle.octal_code.specs.declared.leaving.Leaving.TheVariants.{TwoHeaps, ThreeHeaps}
use Rattle.heap_options.specs.Options.{options_at, nothing_left, one_left, three_left, where_holds, splits, row, last_second, triples}
use Rattle.heap_options.specs.declared.left.Left.{Left}
use Rattle.heap_options.specs.declared.walk.Untried.{Untried}
use Rattle.heap_options.specs.declared.walk.Untried.TheVariants.{Everything, Splits, Triples}
use Rattle.heap_options.specs.declared.walk.Walk.{Walk}

-- the options that take j away and leave at most one heap: one at most
abbrev pub single_left : List ℕ → ℕ → ℕ → List Left
single_left code n j = nothing_left code n j ++ one_left code n j

-- the largest smaller part of the splits that take j away
abbrev pub last_part : ℕ → ℕ → ℕ → ℕ
last_part n most j = min ((n - j) / 2) most

-- the splits that take j away, the smaller part from a on
abbrev pub splits_from : List ℕ → ℕ → ℕ → ℕ → ℕ → List Left
splits_from code n most j a =
    where_holds (allows code j TwoHeaps) (splits (n - j) a (last_part n most j + 1 - a))

-- how many they are
abbrev pub splits_to_try : List ℕ → ℕ → ℕ → ℕ → ℕ → ℕ
splits_to_try code n most j a =
    if allows code j TwoHeaps then last_part n most j + 1 - a else 0

-- the triples that take j away: those with the first part a, the second from b on, and those with a
-- larger first part
abbrev pub triples_from : List ℕ → ℕ → ℕ → ℕ → ℕ → ℕ → List Left
triples_from code n most j a b =
    where_holds (allows code j ThreeHeaps)
    (row (n - j) a b (last_second (n - j) most a + 1 - b) ++ triples (n - j) most (a + 1))

-- how many of them have the first part a
abbrev pub triples_to_try : List ℕ → ℕ → ℕ → ℕ → ℕ → ℕ → ℕ
triples_to_try code n most j a b =
    if allows code j ThreeHeaps then last_second (n - j) most a + 1 - b else 0

-- the options that take j or more away
abbrev pub options_from : List ℕ → ℕ → ℕ → ℕ → List Left
options_from code n most j = flat_map (options_at code n most) (range_with_len j (length code - j))

-- what is untried where j is taken away, and for all larger numbers
abbrev pub left_at : List ℕ → ℕ → ℕ → ℕ → Untried → List Left
left_at code n most j Everything = options_from code n most j
left_at code n most j (Splits a) =
    splits_from code n most j a ++ (three_left code n most j ++ options_from code n most (j + 1))
left_at code n most j (Triples a b) =
    triples_from code n most j a b ++ options_from code n most (j + 1)

-- the options to come
abbrev pub rest : List ℕ → Walk → List Left
rest code w = left_at code w.heap w.most w.away w.untried

-- at the first option of the heap n
abbrev pub begun : ℕ → ℕ → Walk
begun n most = record { heap = n; most = most; away = 0; untried = Everything }

-- the option that leaves at most one heap was tried
abbrev pub after_single : Walk → Walk
after_single w = record w { untried = Splits 1 }

-- so many splits were tried, the smaller part from a on
abbrev pub after_splits : Walk → ℕ → ℕ → Walk
after_splits w a count = record w { untried = Splits (a + count) }

-- the splits were tried: the triples are untried
abbrev pub at_triples : Walk → Walk
at_triples w = record w { untried = Triples 1 1 }

-- so many triples were tried, with the first part a, the second from b on
abbrev pub after_triples : Walk → ℕ → ℕ → ℕ → Walk
after_triples w a b count = record w { untried = Triples a (b + count) }

-- the triples with the first part a were tried: those with a larger one are untried
abbrev pub after_row : Walk → ℕ → Walk
after_row w a = record w { untried = Triples (a + 1) (a + 1) }

-- more is taken away
abbrev pub after_all : Walk → Walk
after_all w = record w { away = w.away + 1; untried = Everything }

-- how many stages are left of a heap where so much is untried, at most: each first part of triples
-- is one
abbrev pub stages : ℕ → Untried → ℕ
stages n Everything = n + 2
stages n (Splits a) = n + 1
stages n (Triples a b) = n + 1 - a

-- the stages that are left of a heap
abbrev pub stages_left : List ℕ → Walk → ℕ
stages_left code w = (w.heap + 3) * (length code - w.away) + stages w.heap w.untried

-- one stage: an option, or the next stage with nothing lost
abbrev pub IsTurn : List ℕ → Walk → Option Left → Walk → Type 0
IsTurn code s r t =
    MatchOption r ((rest code s ≡ rest code t) × (stages_left code t < stages_left code s))
    (λ x. rest code s ≡ x ∷ rest code t)
