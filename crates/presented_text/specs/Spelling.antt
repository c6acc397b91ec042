-- The one text of each presentation, `mqp 1`: these lines in this order, each ended by one LF, with single
-- spaces, nothing before and nothing behind. This project's own.
use Rattle.std.specs.Prelude.{◌≡◌, ℕ, zero, suc, List, [], ◌∷◌, ◌++◌, map, Option, Some, None, codes}
use Rattle.std.specs.Fmt.{decimal}
use Rattle.octal_code.specs.Text.{code_text}
use Rattle.certificate_text.specs.Spelling.{Line, text, key_word}
use Rattle.presented_text.specs.Spelled.{spelled}
use Rattle.presented_text.specs.Said.{PresentedSaid, IsInRanges}

-- the word of a heap, or a sign that it is left out
abbrev pub heap_word : Option (List ℕ) → List ℕ
heap_word None = codes "-"
heap_word (Some word) = spelled word

-- the heaps, and the period of a whole game
abbrev pub heaps_words : ℕ → ℕ → List (List ℕ)
heaps_words heaps zero = decimal heaps ∷ []
heaps_words heaps (suc p) = decimal heaps ∷ codes "period" ∷ decimal (suc p) ∷ []

abbrev pub relation_line : List ℕ × List ℕ → Line
relation_line r = record { name = codes "relation"; words = spelled r.0 ∷ spelled r.1 ∷ [] }

abbrev pub presented_lines : PresentedSaid → List Line
presented_lines c =
    record { name = codes "mqp"; words = codes "1" ∷ [] }
    ∷ record { name = codes "code"; words = code_text c.code ∷ [] }
    ∷ record { name = codes "heaps"; words = heaps_words c.heaps c.period }
    ∷ record { name = codes "letters"; words = map decimal c.letters }
    ∷ record { name = codes "words"; words = map heap_word c.words }
    ∷ (map relation_line c.relations
    ++ (record { name = codes "cycle"; words = map key_word c.cycles }
    ∷ record { name = codes "portion"; words = map spelled c.portion }
    ∷ record { name = codes "end"; words = [] }
    ∷ []))

-- The bytes are the text of what is said, and its numbers are in their ranges.
pub record SpellsPresented (b : List ℕ) (c : PresentedSaid) : Type 0 where
  pub in_ranges : IsInRanges c
  pub bytes : b ≡ text (presented_lines c)
