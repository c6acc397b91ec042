-- What `describe` prints. This project's own.
use Rattle.std.specs.Prelude.{◌≡◌, ◌⊎◌, ℕ, Bool, true, false, List, ◌++◌, length, Option, None, option_map, Result, Ok, Err, Vec, codes}
use Rattle.misere_theory.specs.Certificates.{Certificate}
use Rattle.dominance_text.specs.Said.{DominanceSaid}
use Rattle.given_quotients.specs.Given.{Gives, Refuses}
use Rattle.given_quotients.specs.declared.giving.Quotient.{Quotient}
use Rattle.given_quotients.specs.declared.giving.Quotient.TheVariants.{Finite, Whole, Presented}
use Rattle.presented_text.specs.Spelling.{SpellsPresented}
use Rattle.presented_checker.specs.Refused.{Kept, IsRight}
use Rattle.presentation_search.specs.declared.found.Unpresented.{Unpresented}
use Rattle.presentation_search.specs.declared.found.Unpresented.TheVariants as search
use Rattle.label_descriptions.specs.Described.{presented_text_for}
use Rattle.label_descriptions.specs.Whole.{IsWholeText}
use Rattle.label_descriptions.specs.declared.whole_describing.Output.TheVariants as infinite
use Rattle.descriptions.specs.Described.{IsDescription, IsIdealText}
use Rattle.descriptions.specs.Presenting.{IsRelationsWord}
use Rattle.descriptions.specs.Structure.{IsStructure}
use Rattle.descriptions.specs.MultiplicationTables.{table_text}
use Rattle.descriptions.specs.declared.presenting.PresentBound.{PresentBound}
use Rattle.descriptions.specs.declared.presenting.PresentBound.TheVariants as beyond
use Rattle.descriptions.specs.declared.systems.System.{System}
use Rattle.descriptions.specs.declared.systems.System.TheVariants as system
use Rattle.relations.specs.declared.finding.Form.{Form}
use Rattle.relations.specs.declared.finding.Form.TheVariants.{Short, Basis}
use Rattle.relations.specs.declared.text.Notation.{Notation}
use Rattle.relations.specs.declared.text.Notation.TheVariants as written
use Rattle.relations.specs.Met.{bound_of}
use Rattle.relations.specs.declared.fault.MetBound.{MetBound}
use Rattle.relations.specs.declared.fault.Bound.{Bound}
use Rattle.relations.specs.declared.fault.Bound.TheVariants as bound
use Rattle.relations.specs.declared.fault.Undescribed.{Undescribed}
use Rattle.relations.specs.declared.fault.Undescribed.TheVariants.{Bound as Told, Memory as NoMemory}
use Rattle.requests.specs.declared.plans.Output.{Output}
use Rattle.requests.specs.declared.plans.Output.TheVariants.{Description, Latex, Json, Relations, Singular, Gap, GapTable, Structure, Presentation}

-- the form that is asked for: the basis, or a short list
abbrev pub form_of : Bool → Form
form_of true = Basis
form_of false = Short

-- the line of each bound within which a quotient is not described
abbrev pub bound_line : Bound → List ℕ
bound_line bound.Letters = codes "not described within 26 generators\n"
bound_line bound.Exponents = codes "not described within exponents of 64\n"
bound_line bound.Unshown = codes "not described within 512 rules\n"

-- When a search for relations of a quotient in a form met a bound.
abbrev pub Meets : Type 1
Meets = Certificate → Form → Bound → Type 0

-- The search over the calls of `relations`: one of its values says so, which no other code makes.
abbrev pub HasMet : Certificate → Form → Bound → Type 0
HasMet c form b = (met : MetBound) × (bound_of met ≡ b)

-- the line that names the bound of `present` that relations are above
abbrev pub note_line : PresentBound → List ℕ
note_line beyond.Relations =
    codes "misere: present refuses these relations: more than 64 of them\n"
note_line beyond.Powers =
    codes "misere: present refuses these relations: a letter without a relation of its own powers\n"
note_line beyond.Box =
    codes "misere: present refuses these relations: a box above 65536, or more than 256 elements\n"

-- the line of relations, and beside it the note of the bound of `present` that they are above
abbrev pub IsRelationsText : Form → Certificate → List ℕ → Option (List ℕ) → Type 0
IsRelationsText form c text note = (word : List ℕ) × (above : Option PresentBound)
    × IsRelationsWord form c word above × (text ≡ word ++ codes "\n") × (note ≡ option_map note_line above)

-- The text of a whole game, in lines, for LaTeX or as JSON; or that it is described in no other way.
abbrev pub DescribesWhole : DominanceSaid → Output → List ℕ → Bool → Type 0
DescribesWhole c Description text succeeds = IsWholeText infinite.Plain c text × (succeeds ≡ true)
DescribesWhole c Latex text succeeds = IsWholeText infinite.Latex c text × (succeeds ≡ true)
DescribesWhole c Json text succeeds = IsWholeText infinite.Json c text × (succeeds ≡ true)
DescribesWhole c _ text succeeds =
    (text ≡ codes "a whole game is described in lines, for LaTeX or as JSON\n") × (succeeds ≡ false)

-- The text of a presentation, in lines, for LaTeX or as JSON; or that it is described in no other way.
abbrev pub DescribesPresented : Kept → Output → List ℕ → Bool → Type 0
DescribesPresented k Description text succeeds =
    (text ≡ presented_text_for infinite.Plain k) × (succeeds ≡ true)
DescribesPresented k Latex text succeeds = (text ≡ presented_text_for infinite.Latex k) × (succeeds ≡ true)
DescribesPresented k Json text succeeds = (text ≡ presented_text_for infinite.Json k) × (succeeds ≡ true)
DescribesPresented k _ text succeeds =
    (text ≡ codes "a presentation is described in lines, for LaTeX or as JSON\n") × (succeeds ≡ false)

-- the text is the multiplication table for GAP
abbrev pub TellsTable : Certificate → List ℕ → Bool → Type 0
TellsTable c text succeeds = (text ≡ table_text c) × (succeeds ≡ true)

-- the line that says why no presentation of a quotient was found
abbrev pub unpresented_line : Unpresented → List ℕ
unpresented_line search.Limit = codes "not presented within what the check takes\n"
unpresented_line search.Refused = codes "not presented: the check refused what was found\n"
unpresented_line search.Work = codes "not presented within the work that is allowed\n"

-- The text is that of a right presentation of the same code and of the same heaps, and so of the same quotient; or it
-- says that none was found, and nothing is claimed.
pub data TellsPresentation (c : Certificate) (text : List ℕ) : Bool → Type 0 where
  Presenting : (k : Kept) → SpellsPresented text k.said → IsRight k → k.said.code ≡ c.code
      → k.said.heaps ≡ length c.phi → k.said.period ≡ c.period → TellsPresentation c text true
  NotPresented : (why : Unpresented) → text ≡ unpresented_line why → TellsPresentation c text false

-- What is said by a search of which only this is known, when it met a bound.
module _ (Met : Meets) where
  -- what is said in place of a quotient is true of it: the bound was met, and of want of memory nothing is
  abbrev pub IsToldOf : Certificate → Form → Undescribed → Type 0
  IsToldOf c form (Told met) = Met c form (bound_of met)
  IsToldOf c form NoMemory = Unit {0}

  -- the line of a bound that was met
  abbrev pub IsBoundLineBy : Certificate → Form → List ℕ → Type 0
  IsBoundLineBy c form text = (b : Bound) × Met c form b × (text ≡ bound_line b)

  -- the text describes the quotient, plain, for LaTeX or in JSON, or says that it isn't described
  abbrev pub DescribesInBy : Notation → Form → Certificate → List ℕ → Bool → Type 0
  DescribesInBy notation form c text succeeds =
      (IsDescription notation form c text × (succeeds ≡ true)) ⊎ (IsBoundLineBy c form text × (succeeds ≡ false))

  -- the text is the ideal of the quotient's relations, for a system, or says that it isn't described
  abbrev pub DescribesForBy : System → Form → Certificate → List ℕ → Bool → Type 0
  DescribesForBy for form c text succeeds =
      (IsIdealText for form c text × (succeeds ≡ true)) ⊎ (IsBoundLineBy c form text × (succeeds ≡ false))

  -- the text tells the structure of the quotient, or says that it isn't described
  abbrev pub TellsStructureBy : Certificate → List ℕ → Bool → Type 0
  TellsStructureBy c text succeeds =
      (IsStructure c text × (succeeds ≡ true)) ⊎ (IsBoundLineBy c Basis text × (succeeds ≡ false))

  -- The text describes the quotient, or is its relations as one word or as an ideal, or its multiplication
  -- table, or what belongs to its idempotents, or its presentation, or says that it isn't described. Beside
  -- relations that `present` refuses there is a note, and else none.
  abbrev pub DescribesQuotientBy : Certificate → Form → Output → List ℕ → Bool → Option (List ℕ) → Type 0
  DescribesQuotientBy c form Description text succeeds note =
      DescribesInBy written.Plain form c text succeeds × (note ≡ None)
  DescribesQuotientBy c form Latex text succeeds note =
      DescribesInBy written.Latex form c text succeeds × (note ≡ None)
  DescribesQuotientBy c form Json text succeeds note =
      DescribesInBy written.Json form c text succeeds × (note ≡ None)
  DescribesQuotientBy c form Singular text succeeds note =
      DescribesForBy system.Singular form c text succeeds × (note ≡ None)
  DescribesQuotientBy c form Gap text succeeds note =
      DescribesForBy system.Gap form c text succeeds × (note ≡ None)
  DescribesQuotientBy c form GapTable text succeeds note =
      TellsTable c text succeeds × (note ≡ None)
  DescribesQuotientBy c form Structure text succeeds note =
      TellsStructureBy c text succeeds × (note ≡ None)
  DescribesQuotientBy c form Presentation text succeeds note =
      TellsPresentation c text succeeds × (note ≡ None)
  DescribesQuotientBy c form Relations text succeeds note =
      (IsRelationsText form c text note × (succeeds ≡ true))
      ⊎ (IsBoundLineBy c form text × (succeeds ≡ false) × (note ≡ None))

  -- the same of each kind of quotients
  abbrev pub DescribesOfBy : Quotient → Form → Output → List ℕ → Bool → Option (List ℕ) → Type 0
  DescribesOfBy (Finite c) form output text succeeds note =
      DescribesQuotientBy c form output text succeeds note
  DescribesOfBy (Whole c) form output text succeeds note =
      DescribesWhole c output text succeeds × (note ≡ None)
  DescribesOfBy (Presented k) form output text succeeds note =
      DescribesPresented k output text succeeds × (note ≡ None)

  -- the same of the quotient that was found, and the text of a no where none was
  abbrev pub DescribesFoundBy : {A : Type 0} → Result Quotient (Vec ℕ A) → Form → Output → List ℕ
      → Bool → Option (List ℕ) → Type 0
  DescribesFoundBy (Ok q) form output text succeeds note = DescribesOfBy q form output text succeeds note
  DescribesFoundBy (Err said) form output text succeeds note =
      (text ≡ said.items) × (succeeds ≡ false) × (note ≡ None)

-- The same by the calls of `relations`.
abbrev pub DescribesOf : Quotient → Form → Output → List ℕ → Bool → Option (List ℕ) → Type 0
DescribesOf q form output text succeeds note = DescribesOfBy HasMet q form output text succeeds note

-- The text describes the quotient that such bytes give under the limit, or says that it isn't described;
-- or it is that of a true no. Beside relations that `present` refuses there is a note.
pub data Describes (Are : List ℕ → Type 0) (limit : ℕ) (form : Form) (output : Output)
    (text : List ℕ) (succeeds : Bool) (note : Option (List ℕ)) : Type 0 where
  ByQuotient : (q : Quotient) → Gives Are limit q
      → DescribesOf q form output text succeeds note
      → Describes Are limit form output text succeeds note
  NoQuotient : Refuses Are limit text → succeeds ≡ false → note ≡ None
      → Describes Are limit form output text succeeds note
