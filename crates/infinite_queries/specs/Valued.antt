-- The element of a position by a presentation that is opened, as a word. This project's own.
use Rattle.std.specs.Prelude.{◌≡◌, ◌⊎◌, ℕ, List, All, IsPermutation}
use Rattle.std.specs.declared.option.Option.{Option}
use Rattle.misere_theory.specs.Games.{IsPosition}
use Rattle.presentations.specs.declared.TheConstants.{LETTERS}
use Rattle.relations.specs.declared.text.Notation.TheVariants.{Plain}
use Rattle.relations.specs.Printed.{word_text}
use Rattle.positions.specs.Positions.{IsSize}
use Rattle.presented_tables.specs.Tested.{HasWord}
use Rattle.presented_checker.specs.Refused.{Kept}
use Rattle.label_players.specs.Forms.{IsFormOf}
use Rattle.opened.specs.declared.text.AcceptedText.{AcceptedText}
use Rattle.opened.specs.declared.text.AcceptedText.TheVariants.{Whole, Presented}
use Rattle.player.specs.Asked.{IsNoPosition, IsOpened, IsUnopened}

-- The text is the normal form of the position of these heaps, as a word.
abbrev pub IsWordOf : List ℕ → Kept → List ℕ → Type 0
IsWordOf heaps k text =
    (X : List ℕ) × (w : List ℕ) × IsPermutation heaps X × IsFormOf k.said X w × (text ≡ word_text Plain LETTERS w)

-- The same by a presentation.
abbrev pub IsValueIn : List ℕ → AcceptedText → List ℕ → Type 0
IsValueIn heaps (Whole c) text = ⊥
IsValueIn heaps (Presented k) text = IsWordOf heaps k text

-- These are heaps, and the presentation has no word for some of them.
abbrev pub LacksWord : List ℕ → Kept → Type 0
LacksWord heaps k = All IsSize heaps × (IsPosition (HasWord k.said) heaps → ⊥)

-- Why no word is told of a position by a presentation: these are no heaps; it doesn't speak of them all; or it does, and
-- memory was refused.
abbrev pub IsUnspelled : List ℕ → Kept → ℕ → Type 0
IsUnspelled heaps k status =
    IsNoPosition heaps status
    ⊎ (((status ≡ 23) × LacksWord heaps k) ⊎ ((status ≡ 9) × All (HasWord k.said) heaps))

-- Why none is told: it isn't a presentation, or as above.
abbrev pub IsUnvalued : List ℕ → AcceptedText → ℕ → Type 0
IsUnvalued heaps (Whole c) status = status ≡ 16
IsUnvalued heaps (Presented k) status = IsUnspelled heaps k status

-- A presentation is opened, and the text is the element of the position.
abbrev pub IsOpenedValue : Option AcceptedText → List ℕ → List ℕ → Type 0
IsOpenedValue opened heaps text = IsOpened opened (λ s. IsValueIn heaps s text)

-- Why no element is told: nothing is opened; or something is, and it tells none.
abbrev pub IsOpenedUnvalued : Option AcceptedText → List ℕ → ℕ → Type 0
IsOpenedUnvalued opened heaps status =
    IsUnopened opened status ⊎ IsOpened opened (λ s. IsUnvalued heaps s status)
