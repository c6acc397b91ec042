-- When a text describes the quotient of a certificate.
use Rattle.std.specs.Prelude.{◌≡◌, ◌≢◌, ℕ, ◌<◌, ◌≤◌, List, ◌++◌, Option, Some, None, All, Contains, Vec, codes, length, vec_len}
use Rattle.std.specs.List.{AllZip}
use Rattle.misere_theory.specs.Certificates.{Certificate, IsHeapOf, phi_at}
use Rattle.certificate.specs.Fields.{grid_of}
use Rattle.presentations.specs.declared.TheConstants.{LETTERS, LARGEST_BOX}
use Rattle.presentations.specs.declared.read.Relation.{Relation}
use Rattle.presentations.specs.declared.named.NamedElement.{NamedElement}
use Rattle.presentations.specs.Powers.{IsAboveLimit, IsPowerOf}
use Rattle.presentations.specs.Tables.{IsTableOf}
use Rattle.monoid_table.specs.Grids.{Grid}
use Rattle.presentations.specs.Text.{SpellsPresentation}
use Rattle.relations.specs.Presented.{ArePresentation, AreNamed, IsListing, LeadTo}
use Rattle.relations.specs.Bases.{AreOfForm}
use Rattle.relations.specs.declared.finding.Form.{Form}
use Rattle.relations.specs.declared.text.Notation.{Notation}
use Rattle.relations.specs.Printed.{words_text}
use Rattle.relations.specs.declared.text.Notation.TheVariants.{Plain, Latex, Json}
use Rattle.descriptions.specs.declared.choosing.Part.TheVariants.{Portion, Units, Idempotents, Kernel}
use Rattle.descriptions.specs.declared.finding.Findings.{Findings}
use Rattle.descriptions.specs.Invariants.{IsOf, AreThose}
use Rattle.descriptions.specs.Tame.{IsTame}
use Rattle.descriptions.specs.Lines.{front_lines, list_lines, tail_line}
use Rattle.descriptions.specs.Rows.{IsRowsText, arrays_text}
use Rattle.descriptions.specs.Systems.{system_text}
use Rattle.descriptions.specs.declared.systems.System.{System}

-- the first heap that has the element
pub record IsFirstHeap (c : Certificate) (element heap : ℕ) : Type 0 where
  pub counts : IsHeapOf c heap
  pub is : phi_at c heap ≡ element
  pub first : (k : ℕ) → 1 ≤ k → k < heap → phi_at c k ≢ element

-- the first heap that has the element, or that none has it
abbrev pub TellsFirstHeap : Certificate → ℕ → Option ℕ → Type 0
TellsFirstHeap c element (Some heap) = IsFirstHeap c element heap
TellsFirstHeap c element None = Contains c.phi element → ⊥

-- the first heaps that have the elements, or that not all of them are elements of heaps
abbrev pub TellsFirstHeaps : {A : Type 0} → Certificate → List ℕ → Option (Vec ℕ A) → Type 0
TellsFirstHeaps c elements (Some heaps) =
    AllZip (IsFirstHeap c) elements heaps.items × (vec_len heaps ≡ length elements)
TellsFirstHeaps c elements None = All (Contains c.phi) elements → ⊥

-- tame, with this number, or for no number
abbrev pub TellsTame : Certificate → Option ℕ → Type 0
TellsTame c (Some n) = IsTame c n
TellsTame c None = (n : ℕ) → IsTame c n → ⊥

-- The relations present the certificate's monoid, by the elements of the letters a, b, ..; each
-- element is the value of its word; each relation leads from a word that is none of these to one of
-- them; the relations are of the form that is asked for; and each element is in the list once.
pub record Describes (c : Certificate) (form : Form) (elements : List ℕ) (relations : List Relation)
    (words : List (List ℕ)) (listing : List ℕ) : Type 0 where
  pub presentation : ArePresentation (grid_of c) elements relations
  pub named : AreNamed (grid_of c) elements words
  pub lead : LeadTo words relations
  pub formed : AreOfForm form (length elements) words relations
  pub letters : length elements ≤ LETTERS
  pub listing_is : IsListing c.order listing

-- the text of the words of the heaps 1, 2, .., plain or for LaTeX in rows, in JSON a list
abbrev pub AreRows : Notation → Certificate → ℕ → List (List ℕ) → List ℕ → Type 0
AreRows Plain c n words text = IsRowsText c n words text
AreRows Latex c n words text = text ≡ arrays_text c n words
AreRows Json c n words text =
    text ≡ codes ",\"heaps\":[" ++ words_text Json n (codes ",") words c.phi ++ codes "]"

-- The text describes the certificate's quotient: its monoid by relations, its portion by words, how
-- many elements there are, the first heap of each generator, the standard invariants, the words of
-- the heaps in rows, and how they go on.
pub record IsDescription (notation : Notation) (form : Form) (c : Certificate) (text : List ℕ) : Type 0 where
  pub elements : List ℕ
  pub relations : List Relation
  pub words : List (List ℕ)
  pub listing : List ℕ
  pub describes : Describes c form elements relations words listing
  pub heaps : List ℕ
  pub are_first : AllZip (IsFirstHeap c) elements heaps
  pub portion : List ℕ
  pub are_portion : AreThose (IsOf c Portion) listing portion
  pub units : List ℕ
  pub are_units : AreThose (IsOf c Units) listing units
  pub idempotents : List ℕ
  pub are_idempotents : AreThose (IsOf c Idempotents) listing idempotents
  pub kernel : List ℕ
  pub are_kernel : AreThose (IsOf c Kernel) listing kernel
  pub tame : Option ℕ
  pub is_tame : TellsTame c tame
  pub rows : List ℕ
  pub are_rows : AreRows notation c (length elements) words rows
  pub lines : text
      ≡ front_lines notation c relations words portion tame heaps (length elements)
      ++ list_lines notation words units idempotents kernel (length elements)
      ++ rows ++ tail_line notation c

-- The text is the ideal, for Singular or for GAP, of relations that present the certificate's monoid.
pub record IsIdealText (system : System) (form : Form) (c : Certificate) (text : List ℕ) : Type 0 where
  pub elements : List ℕ
  pub relations : List Relation
  pub words : List (List ℕ)
  pub listing : List ℕ
  pub describes : Describes c form elements relations words listing
  pub lines : text ≡ system_text system c (length elements) relations

-- all that is said of what was found
pub record AreFindings (c : Certificate) (form : Form) (f : Findings) : Type 0 where
  pub describes : Describes c form f.description.elements.items f.description.relations.items
      f.description.words.items f.description.listing.items
  pub words : vec_len f.description.words ≡ c.order
  pub are_first : AllZip (IsFirstHeap c) f.description.elements.items f.heaps.items
  pub long : vec_len f.heaps ≡ length f.description.elements.items
  pub are_portion : AreThose (IsOf c Portion) f.description.listing.items f.portion.items
  pub portion_in : All (λ e. e < c.order) f.portion.items
  pub are_units : AreThose (IsOf c Units) f.description.listing.items f.units.items
  pub units_in : All (λ e. e < c.order) f.units.items
  pub are_idempotents : AreThose (IsOf c Idempotents) f.description.listing.items
      f.idempotents.items
  pub idempotents_in : All (λ e. e < c.order) f.idempotents.items
  pub are_kernel : AreThose (IsOf c Kernel) f.description.listing.items f.kernel.items
  pub kernel_in : All (λ e. e < c.order) f.kernel.items
  pub is_tame : TellsTame c f.tame

-- Relations have a table that `present` makes: their box is within LARGEST_BOX.
pub record HasTable (relations : List Relation) : Type 0 where
  pub table : Grid
  pub generators : List NamedElement
  pub is_table : IsTableOf relations table generators
  pub within : IsAboveLimit relations LARGEST_BOX → ⊥

-- both words of the relation are powers of one letter
abbrev pub IsBetweenPowers : Relation → Type 0
IsBetweenPowers r = (letter : ℕ) × IsPowerOf r.left letter × IsPowerOf r.right letter

-- relations, and behind them others between powers of one letter each
abbrev pub HasBeside : List Relation → List Relation → Type 0
HasBeside relations all =
    (more : List Relation) × (all ≡ relations ++ more) × All IsBetweenPowers more

-- The relations are those of a description of this form, and others between powers of one letter each.
pub record AreOfDescription (c : Certificate) (form : Form) (elements : List ℕ)
    (relations : List Relation) : Type 0 where
  pub first : List Relation
  pub words : List (List ℕ)
  pub listing : List ℕ
  pub describes : Describes c form elements first words listing
  pub beside : HasBeside first relations

-- The line spells relations that present the certificate's monoid, those of a description of this form
-- first, and `present` makes their table.
pub record IsPresentable (form : Form) (c : Certificate) (line : List ℕ) : Type 0 where
  pub elements : List ℕ
  pub relations : List Relation
  pub presentation : ArePresentation (grid_of c) elements relations
  pub described : AreOfDescription c form elements relations
  pub spelled : SpellsPresentation line relations
  pub has_table : HasTable relations
