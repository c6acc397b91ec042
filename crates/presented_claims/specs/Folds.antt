-- Words beyond thresholds. Each of the first letters has a threshold and a period; an exponent that is as large as the
-- threshold stands for all that are larger by whole periods. So finitely many words stand for all. This project's own.
use Rattle.std.specs.Prelude.{◌≡◌, ℕ, zero, suc, ◌*◌, ◌<◌, ◌≤◌, nat_lt, if◌then◌else◌, List, [], ◌∷◌, length, slice_index, All}
use Rattle.presentations.specs.Vectors.{only}

-- the threshold and the period of a letter, none for those behind the list
abbrev pub at_letter : List (ℕ × ℕ) → ℕ → ℕ × ℕ
at_letter [] i = (0, 0)
at_letter (c ∷ cs) zero = c
at_letter (c ∷ cs) (suc i) = at_letter cs i

-- each period is at least 1
abbrev pub HavePeriods : List (ℕ × ℕ) → Type 0
HavePeriods folds = (i : ℕ) → i < length folds → 1 ≤ (at_letter folds i).1

-- no left word has more of a letter than its threshold
abbrev pub AreAbove : List (ℕ × ℕ) → List (List ℕ × List ℕ) → Type 0
AreAbove folds relations =
    All (λ r. (i : ℕ) → i < length folds → slice_index r.0 i ≤ (at_letter folds i).0) relations

-- Thresholds that are no smaller, and periods that are multiples.
abbrev pub AreFiner : List (ℕ × ℕ) → List (ℕ × ℕ) → Type 0
AreFiner folds cycles = (length folds ≡ length cycles)
    × ((i : ℕ) → i < length cycles → ((at_letter cycles i).0 ≤ (at_letter folds i).0)
    × ((k : ℕ) × ((at_letter folds i).1 ≡ (at_letter cycles i).1 * k)))

-- the periods of letters from number i on, of which the word has as many as the threshold
abbrev pub steps_from : ℕ → ℕ → List (ℕ × ℕ) → List ℕ → List (List ℕ)
steps_from n i [] word = []
steps_from n i (c ∷ cs) word =
    if nat_lt (slice_index word i) c.0 then steps_from n (suc i) cs word
    else only n i c.1 ∷ steps_from n (suc i) cs word
