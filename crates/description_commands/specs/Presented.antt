-- The lines that `present` prints. This project's own.
use Rattle.std.specs.Prelude.{◌≡◌, ◌⊎◌, ℕ, zero, suc, Bool, true, false, List, [], ◌∷◌, ◌++◌, codes, decimal, encode_utf8}
use Rattle.misere_theory.specs.declared.TheConstants.{LARGEST_FIRST_ORDER}
use Rattle.monoid_table.specs.Grids.{Grid, IsTable, times_in}
use Rattle.presentations.specs.declared.TheConstants.{LARGEST_BOX}
use Rattle.presentations.specs.declared.named.NamedElement.{NamedElement}
use Rattle.presentations.specs.declared.read.Relation.{Relation}
use Rattle.presentations.specs.Powers.{IsAboveLimit, IsUnbounded}
use Rattle.presentations.specs.Tables.{HasMoreElements, IsTableOf}
use Rattle.presentations.specs.Text.{SpellsPresentation}

-- an element behind a space
abbrev pub element_word : ℕ → List ℕ
element_word e = codes " " ++ decimal e

-- a letter and its element, behind a space
abbrev pub generator_word : NamedElement → List ℕ
generator_word g = codes " " ++ encode_utf8 g.letter ++ codes "=" ++ decimal g.element

abbrev pub generator_words : List NamedElement → List ℕ
generator_words [] = []
generator_words (g ∷ gs) = generator_word g ++ generator_words gs

-- the first n products of a row
abbrev pub row_words : (ℕ → ℕ) → ℕ → List ℕ
row_words product zero = []
row_words product (suc n) = row_words product n ++ element_word (product n)

abbrev pub row_line : Grid → ℕ → List ℕ
row_line table x = (codes "row" ++ row_words (times_in table x) table.order) ++ codes "\n"

-- the first n rows
abbrev pub row_lines : Grid → ℕ → List ℕ
row_lines table zero = []
row_lines table (suc n) = row_lines table n ++ row_line table n

abbrev pub generators_line : List NamedElement → List ℕ
generators_line generators = (codes "generators" ++ generator_words generators) ++ codes "\n"

-- the order, the elements of the generators, and the rows
abbrev pub monoid_lines : Grid → List NamedElement → List ℕ
monoid_lines table generators =
    (codes "order " ++ decimal table.order ++ codes "\n" ++ generators_line generators)
    ++ row_lines table table.order

-- The bytes spell relations that have this table, and their box is within the limit.
pub record PresentsMonoid (presentation : List ℕ) (table : Grid)
    (generators : List NamedElement) : Type 0 where
  pub relations : List Relation
  pub spelled : SpellsPresentation presentation relations
  pub is_table : IsTableOf relations table generators
  pub within : IsAboveLimit relations LARGEST_BOX → ⊥

-- The text is the table of the least congruence that holds the relations; it is a commutative
-- monoid, and the box is within the limit.
pub record IsTableText (relations : List Relation) (text : List ℕ) : Type 0 where
  pub table : Grid
  pub generators : List NamedElement
  pub monoid : IsTable table.order table.entries
  pub is_table : IsTableOf relations table generators
  pub within : IsAboveLimit relations LARGEST_BOX → ⊥
  pub lines : text ≡ monoid_lines table generators

-- The text is the line that says why the relations have no table, and it is right.
pub data RefusesTable (relations : List Relation) (text : List ℕ) : Type 0 where
  Unbounded : IsUnbounded relations → text ≡ codes "refused 2 Unbounded\n"
      → RefusesTable relations text
  Limit : (IsUnbounded relations → ⊥)
      → IsAboveLimit relations LARGEST_BOX ⊎ HasMoreElements relations LARGEST_FIRST_ORDER
      → text ≡ codes "refused 3 Limit\n" → RefusesTable relations text

-- the text is the table, or says why there is none
abbrev pub PresentsTable : List Relation → List ℕ → Bool → Type 0
PresentsTable relations text true = IsTableText relations text
PresentsTable relations text false = RefusesTable relations text

-- The presentation is no list of relations, which the text says, or the text is their table, or
-- says why there is none.
pub data Presents (presentation text : List ℕ) (succeeds : Bool) : Type 0 where
  NoText : ((q : List Relation) → SpellsPresentation presentation q → ⊥)
      → text ≡ codes "refused 1 Text\n" → succeeds ≡ false
      → Presents presentation text succeeds
  OfRelations : (relations : List Relation) → SpellsPresentation presentation relations
      → PresentsTable relations text succeeds
      → Presents presentation text succeeds
