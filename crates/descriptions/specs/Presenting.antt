-- The relations of a certificate's monoid as one word, and the bounds of `present` that they are
-- above. This project's own.
use Rattle.std.specs.Prelude.{◌≡◌, ℕ, ◌<◌, ◌≤◌, ◌⊎◌, List, Option, Some, None, codes, length}
use Rattle.misere_theory.specs.Certificates.{Certificate}
use Rattle.misere_theory.specs.declared.TheConstants.{LARGEST_FIRST_ORDER}
use Rattle.certificate.specs.Fields.{grid_of}
use Rattle.presentations.specs.declared.TheConstants.{MOST_RELATIONS, LARGEST_BOX}
use Rattle.presentations.specs.declared.read.Relation.{Relation}
use Rattle.presentations.specs.Powers.{IsUnbounded, IsAboveLimit}
use Rattle.presentations.specs.Tables.{HasMoreElements}
use Rattle.relations.specs.Presented.{ArePresentation}
use Rattle.relations.specs.Printed.{ArePrintable, relations_text}
use Rattle.relations.specs.declared.text.Notation.TheVariants.{Plain}
use Rattle.relations.specs.declared.finding.Form.{Form}
use Rattle.descriptions.specs.Described.{AreOfDescription, HasTable, IsPresentable}
use Rattle.descriptions.specs.declared.presenting.PresentBound.{PresentBound}
use Rattle.descriptions.specs.declared.presenting.PresentBound.TheVariants as bound

-- The relations are above this bound, and above none before it: there are too many; a letter that
-- occurs has no relation between two powers of its own; their box, or their monoid, is too large.
abbrev pub AreAbove : PresentBound → List Relation → Type 0
AreAbove bound.Relations relations = MOST_RELATIONS < length relations
AreAbove bound.Powers relations = (length relations ≤ MOST_RELATIONS) × IsUnbounded relations
AreAbove bound.Box relations = (length relations ≤ MOST_RELATIONS) × (IsUnbounded relations → ⊥)
    × (IsAboveLimit relations LARGEST_BOX ⊎ HasMoreElements relations LARGEST_FIRST_ORDER)

-- the first bound that the relations are above, and for none, that `present` makes their table
abbrev pub HaveBound : List Relation → Option PresentBound → Type 0
HaveBound relations None = (length relations ≤ MOST_RELATIONS) × HasTable relations
HaveBound relations (Some b) = AreAbove b relations

-- The word is the text of relations that present the certificate's monoid, those of a description of
-- this form first, with exponents as `present` reads them, and they are above this bound.
pub record IsRefusedWord (form : Form) (c : Certificate) (b : PresentBound) (word : List ℕ) : Type 0
  where
    pub elements : List ℕ
    pub relations : List Relation
    pub presentation : ArePresentation (grid_of c) elements relations
    pub described : AreOfDescription c form elements relations
    pub printable : ArePrintable (length elements) relations
    pub text : word ≡ relations_text Plain (length elements) (codes " ") relations
    pub above : AreAbove b relations

-- The word is the relations of the certificate's monoid in this form: `present` takes them, or they are
-- above this bound.
abbrev pub IsRelationsWord : Form → Certificate → List ℕ → Option PresentBound → Type 0
IsRelationsWord form c word None = IsPresentable form c word
IsRelationsWord form c word (Some b) = IsRefusedWord form c b word
