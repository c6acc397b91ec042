-- What the search and the description of the library tell. This project's own.
use Rattle.std.specs.Prelude.{◌≡◌, ◌⊎◌, ◌==◌, ℕ, ◌<◌, ◌≤◌, List, true, false, Ok, if◌then◌else◌}
use Rattle.std.specs.declared.alloc.Global.{Global}
use Rattle.misere_theory.specs.declared.TheConstants.{LARGEST_PART, LARGEST_FIRST_ORDER, LARGEST_ORDER}
use Rattle.misere_theory.specs.Certificates.{Certificate, Accepted, kind_of}
use Rattle.octal_code.specs.Text.{IsCodeText}
use Rattle.certificate_text.specs.Spelling.{Spells}
use Rattle.answers.specs.ByteVerdicts.{IsTrueOf, refused}
use Rattle.answers.specs.ByteVerdicts.ByteVerdict.{Yes, Memory}
use Rattle.answers.specs.Refusals.{refusal_number}
use Rattle.answers.specs.declared.refusal.Refusal.{Refusal}
use Rattle.check_machine.specs.Turns.{verdict}
use Rattle.descriptions.specs.Described.{IsDescription, IsIdealText, IsPresentable}
use Rattle.descriptions.specs.Presenting.{IsRefusedWord}
use Rattle.descriptions.specs.declared.presenting.PresentBound.{PresentBound}
use Rattle.descriptions.specs.declared.systems.System.TheVariants.{Singular, Gap}
use Rattle.quotient_search.specs.declared.aim.TheConstants.{DEEPEST}
use Rattle.relations.specs.declared.fault.Undescribed.{Undescribed}
use Rattle.relations.specs.declared.fault.Undescribed.TheVariants.{Bound, Memory as NoMemory}
use Rattle.relations.specs.declared.finding.Form.{Form}
use Rattle.relations.specs.declared.finding.Form.TheVariants.{Short, Basis}
use Rattle.relations.specs.declared.text.Notation.TheVariants.{Plain, Latex, Json}
use Rattle.requests.specs.declared.plans.Aim.{Aim}
use Rattle.requests.specs.declared.plans.Aim.TheVariants.{Whole, Deep, Any, Part, Furthest}
use Rattle.requests.specs.declared.plans.SolveBounds.{SolveBounds}
use Rattle.requests.specs.declared.ranges.TheConstants.{FEWEST_HEAPS, LARGEST_LIMIT, LEAST_ORDER, MOST_HEAPS, MOST_ROUNDS}
use Rattle.solve_command.specs.Solved.{IsNoCode, IsSearched, Solves}
use Rattle.solve_library.specs.declared.causes.Untold.{Untold}
use Rattle.solve_library.specs.declared.causes.Untold.TheVariants.{NotDescribed, Beyond, NotInRange, Refused, NotOpen, NotACode, GaveUp}
use Rattle.solve_library.specs.declared.causes.Untold.TheVariants as cause
use Rattle.solve_library.specs.declared.solving.Asked.{Asked}

-- 0 aims at a full certificate, 1 at that of the heaps 1 to `heaps`, and 2 at that of some first heaps
abbrev pub IsOfKind : ℕ → ℕ → ℕ → Type 0
IsOfKind aim heaps kind = (aim ≡ 0 → kind ≡ 0) × (aim ≡ 1 → kind ≡ heaps)
    × (aim ≡ 2 → (1 ≤ kind) × (kind ≤ LARGEST_PART))

-- the aim of this number: 0 for the whole game, of which the heaps 1 to `heaps` are looked at, 1 for
-- the part of the heaps 1 to `heaps`, 2 for that of the most first heaps
abbrev pub IsAim : ℕ → ℕ → Aim → Type 0
IsAim aim heaps (Whole most) = (aim ≡ 0) × (most ≡ heaps)
IsAim aim heaps Deep = ⊥
IsAim aim heaps Any = ⊥
IsAim aim heaps (Part last) = (aim ≡ 1) × (last ≡ heaps)
IsAim aim heaps Furthest = aim ≡ 2

-- the aim, with its heaps and the order that it allows, is in its range
abbrev pub IsAimInRange : Asked → Type 0
IsAimInRange a =
    ((a.aim ≡ 0) × (FEWEST_HEAPS ≤ a.heaps) × (a.heaps ≤ DEEPEST)
    × ((MOST_HEAPS < a.heaps) ⊎ (a.order ≤ LARGEST_FIRST_ORDER)))
    ⊎ (((a.aim ≡ 1) × (1 ≤ a.heaps) × (a.heaps ≤ LARGEST_PART)) ⊎ (a.aim ≡ 2))

-- limit, rounds and order are in their ranges
abbrev pub AreNumbersInRange : Asked → Type 0
AreNumbersInRange a = ((1 ≤ a.limit) × (a.limit ≤ LARGEST_LIMIT))
    × ((1 ≤ a.rounds) × (a.rounds ≤ MOST_ROUNDS))
    × ((LEAST_ORDER ≤ a.order) × (a.order ≤ LARGEST_ORDER))

-- all that is asked is in its range
abbrev pub IsInRange : Asked → Type 0
IsInRange a = IsAimInRange a × AreNumbersInRange a

-- the bounds are what is asked
pub record AreBounds (a : Asked) (bounds : SolveBounds) : Type 0 where
  pub aim : IsAim a.aim a.heaps bounds.aim
  pub limit : bounds.limit ≡ a.limit
  pub rounds : bounds.rounds ≡ a.rounds
  pub order : bounds.order ≡ a.order
  pub why : bounds.tells_why ≡ a.tells_why

-- the bytes are an accepted certificate of the code that the text spells, of at most so many elements
-- and of a kind that is aimed at, to which a search within the bounds that are asked came
pub record IsCertificateFor (text : List ℕ) (a : Asked) (bytes : List ℕ) : Type 0 where
  pub certificate : Certificate
  pub of_code : IsCodeText text certificate.code
  pub of_kind : IsOfKind a.aim a.heaps (kind_of certificate)
  pub spelled : Spells bytes certificate
  pub accepted : Accepted certificate
  pub small : certificate.order ≤ a.order
  pub bounds : SolveBounds
  pub are_bounds : AreBounds a bounds
  pub searched : IsSearched certificate.code bounds (Ok certificate)

-- the text is what a search within the bounds that are asked says of the code where it is given up
abbrev pub IsGivenUpFor : List ℕ → Asked → List ℕ → Type 0
IsGivenUpFor text a said = (bounds : SolveBounds) × AreBounds a bounds × Solves text bounds said false

-- what is told of a search, with its status: with 0 the bytes of a certificate, with 13, where that is
-- asked, how the search was given up
abbrev pub Tells : List ℕ → Asked → ℕ → List ℕ → Type 0
Tells text a status told = ((status ≡ 0) × IsCertificateFor text a told)
    ⊎ ((status ≡ 13) × (a.tells_why ≡ true) × IsGivenUpFor text a told)

-- Why nothing is told of a search: something that is asked is out of its range; or all is in its range,
-- and the text is no code's, the search was given up and nobody asks why, or memory was refused.
abbrev pub IsUnfound : List ℕ → Asked → Untold → Type 0
IsUnfound text a NotInRange = IsInRange a → ⊥
IsUnfound text a NotACode = IsInRange a × IsNoCode text
IsUnfound text a GaveUp =
    IsInRange a × (a.tells_why ≡ false) × ((said : List ℕ) × IsGivenUpFor text a said)
IsUnfound text a cause.Memory = IsInRange a
IsUnfound text a _ = ⊥

-- the form of relations of this number
abbrev pub form_at : ℕ → Form
form_at form = if form == 0 then Short else Basis

-- The text is what is asked for of the quotient, with relations in this form: 0 its description, 1 that
-- for LaTeX, 2 its relations as one word, 3 its description in JSON, 4 and 5 the ideal of its relations
-- for Singular and for GAP.
pub data IsTextFor (output : ℕ) (form : Form) (c : Certificate) (text : List ℕ) : Type 0 where
  Description : output ≡ 0 → IsDescription Plain form c text → IsTextFor output form c text
  ForLatex : output ≡ 1 → IsDescription Latex form c text → IsTextFor output form c text
  Relations : output ≡ 2 → IsPresentable form c text → IsTextFor output form c text
  InJson : output ≡ 3 → IsDescription Json form c text → IsTextFor output form c text
  ForSingular : output ≡ 4 → IsIdealText Singular form c text → IsTextFor output form c text
  ForGap : output ≡ 5 → IsIdealText Gap form c text → IsTextFor output form c text

-- the bytes are an accepted certificate, to which the verdict under the limit is yes, and of which the
-- rest is true
abbrev pub Certify : List ℕ → ℕ → (Certificate → Type 0) → Type 0
Certify bytes limit says =
    (c : Certificate) × Spells bytes c × Accepted c × (verdict bytes limit ≡ Yes c) × says c

-- the bytes are certified, and the text is what is asked for of the quotient
abbrev pub IsTextOf : List ℕ → ℕ → ℕ → ℕ → List ℕ → Type 0
IsTextOf bytes limit output form text =
    Certify bytes limit (λ c. IsTextFor output (form_at form) c text)

-- the number of why nothing is told: 16 where the quotient isn't described within a bound
abbrev pub untold_number : Untold → ℕ
untold_number (NotDescribed (Bound met)) = 16
untold_number (NotDescribed NoMemory) = 9
untold_number (Beyond above) = 16
untold_number NotInRange = 15
untold_number (Refused refusal) = refusal_number refusal
untold_number NotOpen = 17
untold_number NotACode = 12
untold_number GaveUp = 13
untold_number cause.Memory = 9

-- the search for relations met a bound, or memory was refused
abbrev pub IsNotDescribed : Untold → Type 0
IsNotDescribed untold = (fault : Undescribed) × (untold ≡ NotDescribed fault)

-- the relations of the quotient in this form are above a bound of `present`
abbrev pub IsBeyondPresent : Form → Certificate → Untold → Type 0
IsBeyondPresent form c untold =
    (b : PresentBound) × (untold ≡ Beyond b) × ((word : List ℕ) × IsRefusedWord form c b word)

-- Why no text of a certified quotient is told: the search for relations met a bound, or memory was
-- refused; the relations are above a bound of `present`; or there is no such output.
abbrev pub IsUntoldOf : ℕ → Form → Certificate → Untold → Type 0
IsUntoldOf output form c untold =
    IsNotDescribed untold
    ⊎ (((output ≡ 2) × IsBeyondPresent form c untold) ⊎ ((untold ≡ NotInRange) × (6 ≤ output)))

-- The refusal is that of the verdict on the bytes under the limit, truly, or memory was refused.
abbrev pub IsRefusal : List ℕ → ℕ → Untold → Type 0
IsRefusal bytes limit untold = (refusal : Refusal Global) × (untold ≡ Refused refusal)
    × IsTrueOf bytes limit (refused refusal)
    × ((refused refusal ≡ verdict bytes limit) ⊎ (refused refusal ≡ Memory))

-- Why no text is told: there is no such form; or the bytes are certified, and no text of the quotient
-- is told; or the bytes are refused.
abbrev pub IsUntold : List ℕ → ℕ → ℕ → ℕ → Untold → Type 0
IsUntold bytes limit output form untold =
    ((untold ≡ NotInRange) × (2 ≤ form))
    ⊎ (Certify bytes limit (λ c. IsUntoldOf output (form_at form) c untold)
    ⊎ IsRefusal bytes limit untold)
