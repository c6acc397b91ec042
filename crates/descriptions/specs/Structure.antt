-- The structure of a finite commutative monoid by its idempotents. Clifford and Preston, The Algebraic
-- Theory of Semigroups, volume I: maximal subgroups, section 1.7; the order of idempotents, section 1.8;
-- archimedean components, section 4.3. The lines that tell it are this project's own.
use Rattle.std.specs.Prelude.{◌≡◌, ◌≢◌, ℕ, ◌<◌, List, [], ◌∷◌, ◌++◌, codes, length, slice_index_or}
use Rattle.misere_theory.specs.Certificates.{Certificate}
use Rattle.certificate.specs.Fields.{grid_of}
use Rattle.monoid_table.specs.Grids.{Grid, times_in}
use Rattle.monoid_table.specs.Laws.{power_of}
use Rattle.presentations.specs.declared.read.Relation.{Relation}
use Rattle.relations.specs.declared.finding.Form.TheVariants.{Basis}
use Rattle.relations.specs.declared.text.Notation.TheVariants.{Plain}
use Rattle.relations.specs.Printed.{word_text}
use Rattle.descriptions.specs.declared.choosing.Part.TheVariants.{Idempotents, Kernel}
use Rattle.descriptions.specs.declared.components.Share.{Share}
use Rattle.descriptions.specs.declared.components.Share.TheVariants.{Component, Group, NextBelow}
use Rattle.descriptions.specs.Invariants.{AreThose, Divides, IsOf}
use Rattle.descriptions.specs.Described.{Describes}
use Rattle.descriptions.specs.Lines.{list_line}
use Rattle.descriptions.specs.Systems.{title_text}

-- an idempotent: it is its own square
abbrev pub IsIdempotent : Grid → ℕ → Type 0
IsIdempotent t e = times_in t e e ≡ e

-- y is a power of x, which is the first of its powers
abbrev pub HasPower : Grid → ℕ → ℕ → Type 0
HasPower t x y = (k : ℕ) × (0 < k) × (power_of 0 (times_in t) x k ≡ y)

-- x is in the archimedean component of the idempotent e: e is one of its powers
abbrev pub IsInComponent : Grid → ℕ → ℕ → Type 0
IsInComponent t e x = HasPower t x e

-- x is in the maximal subgroup of the idempotent e, the units of the monoid of e's multiples: it is one of
-- them, and some product of it is e
abbrev pub IsInGroup : Grid → ℕ → ℕ → Type 0
IsInGroup t e x = (times_in t e x ≡ x) × Divides t x e

-- f is below e: another element, and their product is f
abbrev pub IsBelow : Grid → ℕ → ℕ → Type 0
IsBelow t e f = (f ≢ e) × (times_in t e f ≡ f)

-- an idempotent g that is below e, and f below it
pub record LiesBetween (t : Grid) (e f g : ℕ) : Type 0 where
  pub within : g < t.order
  pub idempotent : IsIdempotent t g
  pub below : IsBelow t e g
  pub above : IsBelow t g f

-- the idempotent e covers f: f is an idempotent below e, and none lies between them
pub record Covers (t : Grid) (e f : ℕ) : Type 0 where
  pub idempotent : IsIdempotent t f
  pub below : IsBelow t e f
  pub next : (g : ℕ) → LiesBetween t e f g → ⊥

-- what belongs to an idempotent
abbrev pub BelongsTo : Grid → ℕ → Share → ℕ → Type 0
BelongsTo t e Component x = IsInComponent t e x
BelongsTo t e Group x = IsInGroup t e x
BelongsTo t e NextBelow x = Covers t e x

-- the line of elements that belong to the idempotent e, under a name
abbrev pub share_line : List ℕ → ℕ → List (List ℕ) → ℕ → List ℕ → List ℕ
share_line name n words e elements = list_line Plain
    (name ++ codes " " ++ word_text Plain n (slice_index_or words e []) ++ codes ":") n words elements

-- the line of the idempotents that e covers, and none for the least one
abbrev pub below_line : ℕ → List (List ℕ) → ℕ → List ℕ → List ℕ
below_line n words e [] = []
below_line n words e (f ∷ elements) = share_line (codes "next below") n words e (f ∷ elements)

-- The lines of the idempotent e: its component, its group, and the idempotents that it covers.
pub record AreLinesOf (t : Grid) (n : ℕ) (words : List (List ℕ)) (listing : List ℕ) (e : ℕ)
    (text : List ℕ) : Type 0 where
  pub component : List ℕ
  pub are_component : AreThose (BelongsTo t e Component) listing component
  pub group : List ℕ
  pub are_group : AreThose (BelongsTo t e Group) listing group
  pub below : List ℕ
  pub are_below : AreThose (BelongsTo t e NextBelow) listing below
  pub lines : text ≡ share_line (codes "component") n words e component
      ++ share_line (codes "group") n words e group ++ below_line n words e below

-- the lines of each of these idempotents, in their order
pub data AreLines (t : Grid) (n : ℕ) (words : List (List ℕ)) (listing : List ℕ) : List ℕ → List ℕ
    → Type 0 where
  NoLine : AreLines t n words listing [] []
  Next : {idempotents text : List ℕ} (e : ℕ) (more : List ℕ)
      → AreLines t n words listing idempotents text → AreLinesOf t n words listing e more
      → AreLines t n words listing (idempotents ++ e ∷ []) (text ++ more)

-- the quotient, its idempotents and its kernel
abbrev pub structure_head : Certificate → ℕ → List (List ℕ) → List ℕ → List ℕ → List ℕ
structure_head c n words idempotents kernel = title_text c ++ codes "\n"
    ++ list_line Plain (codes "idempotents") n words idempotents
    ++ list_line Plain (codes "kernel") n words kernel

-- The text tells the structure of the certificate's quotient: its idempotents, its kernel, and of each
-- idempotent the archimedean component, the maximal subgroup, and the idempotents that it covers; all in
-- the words of a description.
pub record IsStructure (c : Certificate) (text : List ℕ) : Type 0 where
  pub elements : List ℕ
  pub relations : List Relation
  pub words : List (List ℕ)
  pub listing : List ℕ
  pub describes : Describes c Basis elements relations words listing
  pub idempotents : List ℕ
  pub are_idempotents : AreThose (IsOf c Idempotents) listing idempotents
  pub kernel : List ℕ
  pub are_kernel : AreThose (IsOf c Kernel) listing kernel
  pub parts : List ℕ
  pub are_parts : AreLines (grid_of c) (length elements) words listing idempotents parts
  pub lines : text ≡ structure_head c (length elements) words idempotents kernel ++ parts
