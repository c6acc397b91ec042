-- What a presentation claims: the word of each heap, the monoid that the relations make of the words, and its
-- P-portion. Plambeck and Siegel; for presentations Rosales and García-Sánchez.
use Rattle.std.specs.Prelude.{ℕ, zero, suc, ◌+◌, ◌-◌, ◌%◌, ◌==◌, nat_lt, nat_eq, if◌then◌else◌, Bool, is_some, List, [], ◌∷◌, length, slice_index_or, Option, Some, None}
use Rattle.std.specs.List.{list_any}
use Rattle.std.specs.Cmp.Lexicographic.{pointwise}
use Rattle.misere_theory.specs.Labels.{LabelClaim}
use Rattle.presentations.specs.declared.TheConstants.{LETTERS}
use Rattle.presentations.specs.Vectors.{zeros}
use Rattle.normal_forms.specs.Forms.{NormalForms, IsElementWord, claim_by}
use Rattle.presented_text.specs.Said.{PresentedSaid}

-- The heap of the list whose word a heap has: itself, and behind the list of a whole game one that is some periods
-- smaller; else none, which is 0.
abbrev pub listed_heap : PresentedSaid → ℕ → ℕ
listed_heap c n =
    if nat_lt c.heaps n
    then (if c.period == 0 then 0
    else c.heaps - c.period + 1 + (n - (c.heaps - c.period + 1)) % c.period)
    else n

-- what the list has for its heap n
abbrev pub listed_word : PresentedSaid → ℕ → Option (List ℕ)
listed_word c zero = None
listed_word c (suc i) = slice_index_or c.words i None

-- Whether the presentation speaks of a heap: it has a word for it.
abbrev pub has_word : PresentedSaid → ℕ → Bool
has_word c n = is_some (listed_word c (listed_heap c n))

abbrev pub word_or_one : Option (List ℕ) → List ℕ
word_or_one None = zeros LETTERS
word_or_one (Some w) = w

-- The word of a heap.
abbrev pub heap_word : PresentedSaid → ℕ → List ℕ
heap_word c n = word_or_one (listed_word c (listed_heap c n))

-- The exponent below the end of the first period that a letter's exponent stands for.
abbrev pub cycled_exponent : ℕ × ℕ → ℕ → ℕ
cycled_exponent c e = if nat_lt e c.0 then e else c.0 + (e - c.0) % c.1

-- the same of each letter that has a cycle
abbrev pub cycled : List (ℕ × ℕ) → List ℕ → List ℕ
cycled [] w = w
cycled (c ∷ cs) [] = []
cycled (c ∷ cs) (e ∷ w) = cycled_exponent c e ∷ cycled cs w

-- Whether a word is in the portion: what the cycles make of it is in the list.
abbrev pub in_portion : PresentedSaid → List ℕ → Bool
in_portion c w = list_any (pointwise nat_eq (cycled c.cycles w)) c.portion

-- The elements: the standard words in the letters.
abbrev pub IsElement : PresentedSaid → List ℕ → Type 0
IsElement c = IsElementWord LETTERS (length c.letters) c.relations

-- The claim: a position's label is the normal form of its heaps' words, multiplied.
abbrev pub claim_of : (c : PresentedSaid) → NormalForms LETTERS c.relations → LabelClaim (List ℕ)
claim_of c forms = claim_by LETTERS forms.form (heap_word c) (in_portion c)
