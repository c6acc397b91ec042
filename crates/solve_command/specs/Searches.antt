-- What a search for a certificate comes to, by what its calls came to. This project's own.
use Rattle.std.specs.Prelude.{◌≡◌, ◌≢◌, ◌⊎◌, ⊤, ◌≤◌, ◌<◌, ℕ, Bool, true, false, List, ◌++◌, Option, Some, None, Result, Ok, Err, codes, decimal}
use Rattle.misere_theory.specs.Certificates.{Certificate, Accepted, kind_of}
use Rattle.misere_theory.specs.declared.TheConstants.{LARGEST_PART}
use Rattle.octal_code.specs.Text.{IsCodeText}
use Rattle.certificate_text.specs.Spelling.{Spells}
use Rattle.quotient_search.specs.declared.aim.Reason.{Reason}
use Rattle.quotient_search.specs.declared.aim.Reason.TheVariants.{TooLarge, Repairs, Work, NoPeriod, OneElement, Members, Refused}
use Rattle.quotient_finder.specs.declared.gave_up.GaveUp.{GaveUp}
use Rattle.quotient_finder.specs.declared.gave_up.GaveUp.TheVariants.{Rounds, Empty, Memory as NoMemory}
use Rattle.requests.specs.declared.plans.Aim.{Aim}
use Rattle.requests.specs.declared.plans.Aim.TheVariants.{Whole, Deep, Any, Part, Furthest}
use Rattle.requests.specs.declared.plans.SolveBounds.{SolveBounds}

-- When calls for a certificate of a code and of a kind, over so many proposers, with this limit of each
-- check and in at most so many rounds, came to this.
abbrev pub Calls : Type 1
Calls = List ℕ → ℕ → ℕ → ℕ → ℕ → Result Certificate GaveUp → Type 0

-- a certificate of this kind is aimed at: a full one, that of the heaps 1 to M, that of some first
-- heaps, or any of these
abbrev pub IsAimedAt : Aim → ℕ → Type 0
IsAimedAt (Whole heaps) kind = kind ≡ 0
IsAimedAt Deep kind = kind ≡ 0
IsAimedAt Any kind = kind ≤ LARGEST_PART
IsAimedAt (Part last) kind = kind ≡ last
IsAimedAt Furthest kind = (1 ≤ kind) × (kind ≤ LARGEST_PART)

-- The certificate is accepted, and is one of this code and of a kind that is aimed at.
pub record IsAskedFor (code : List ℕ) (aim : Aim) (c : Certificate) : Type 0 where
  pub of_code : c.code ≡ code
  pub of_kind : IsAimedAt aim (kind_of c)
  pub accepted : Accepted c

-- the search was given up, or came to a certificate of more elements than are allowed
abbrev pub HasMissed : ℕ → Result Certificate GaveUp → Type 0
HasMissed order (Ok c) = order < c.order
HasMissed order (Err NoMemory) = ⊥
HasMissed order (Err why) = ⊤

-- the line that says why no proposer had a draft that was accepted, with numbers of heaps and of
-- elements
abbrev pub reason_line : Reason → List ℕ
reason_line (TooLarge heap) = codes "too large " ++ decimal heap ++ codes "\n"
reason_line (Repairs heap order) =
    codes "repairs " ++ decimal heap ++ codes " " ++ decimal order ++ codes "\n"
reason_line (Work heap order) =
    codes "work " ++ decimal heap ++ codes " " ++ decimal order ++ codes "\n"
reason_line (NoPeriod heaps order) =
    codes "no period " ++ decimal heaps ++ codes " " ++ decimal order ++ codes "\n"
reason_line OneElement = codes "one element\n"
reason_line Members = codes "members\n"
reason_line Refused = codes "refused\n"

-- it is the line of some reason
abbrev pub IsReasonLine : List ℕ → Type 0
IsReasonLine line = (reason : Reason) × (line ≡ reason_line reason)

-- what is told where no proposer has a draft left, with the reason or without
abbrev pub IsGivingUpText : Bool → List ℕ → Type 0
IsGivingUpText true text = (line : List ℕ) × IsReasonLine line × (text ≡ codes "gave up 2 Empty\n" ++ line)
IsGivingUpText false text = text ≡ codes "gave up 2 Empty\n"

-- what is told where all rounds were spent
abbrev pub rounds_lines : Bool → List ℕ
rounds_lines true = codes "gave up 1 Rounds\nrounds\n"
rounds_lines false = codes "gave up 1 Rounds\n"

-- What is made of such calls. A proof over any calls has nothing of them but what they answered.
module _ (HasAsked : Calls) where
  -- what a search for the whole game came to, within these bounds, over two proposers
  abbrev pub SearchesWhole : List ℕ → SolveBounds → Result Certificate GaveUp → Type 0
  SearchesWhole code bounds came = HasAsked code 0 2 bounds.limit bounds.rounds came

  -- what a search for a part of the game came to, over one
  abbrev pub SearchesPart : List ℕ → SolveBounds → ℕ → Result Certificate GaveUp → Type 0
  SearchesPart code bounds last came = HasAsked code last 1 bounds.limit bounds.rounds came

  -- what a search for some first heaps came to
  abbrev pub SearchesFurthest : List ℕ → SolveBounds → Result Certificate GaveUp → Type 0
  SearchesFurthest code bounds came = (last : ℕ) × (1 ≤ last) × (last ≤ LARGEST_PART)
      × SearchesPart code bounds last came

  -- What a search came to for the whole game, and, only if that missed, for some first heaps.
  pub data SearchesAny (code : List ℕ) (bounds : SolveBounds) (came : Result Certificate GaveUp)
      : Type 0 where
    OfWhole : SearchesWhole code bounds came → (HasMissed bounds.order came → ⊥)
        → SearchesAny code bounds came
    OfPart : (first : Result Certificate GaveUp) → SearchesWhole code bounds first
        → HasMissed bounds.order first → SearchesFurthest code bounds came
        → SearchesAny code bounds came

  -- what a search for what is aimed at came to, within these bounds
  abbrev pub SearchesFor : Aim → List ℕ → SolveBounds → Result Certificate GaveUp → Type 0
  SearchesFor (Whole heaps) code bounds came = SearchesWhole code bounds came
  SearchesFor Deep code bounds came = SearchesWhole code bounds came
  SearchesFor Any code bounds came = SearchesAny code bounds came
  SearchesFor (Part last) code bounds came = SearchesPart code bounds last came
  SearchesFor Furthest code bounds came = SearchesFurthest code bounds came

  abbrev pub IsSearchedBy : List ℕ → SolveBounds → Result Certificate GaveUp → Type 0
  IsSearchedBy code bounds came = SearchesFor bounds.aim code bounds came

  -- The text spells an accepted certificate of the code, of a kind that is aimed at and of at most so
  -- many elements as are allowed, to which the search came.
  pub record SpellsFound (code : List ℕ) (bounds : SolveBounds) (text : List ℕ) : Type 0 where
    pub c : Certificate
    pub asked_for : IsAskedFor code bounds.aim c
    pub small : c.order ≤ bounds.order
    pub searched : IsSearchedBy code bounds (Ok c)
    pub spelled : Spells text c

  -- All rounds were spent, or the certificate that was found has more elements than are allowed.
  abbrev pub IsSpent : List ℕ → SolveBounds → Type 0
  IsSpent code bounds = IsSearchedBy code bounds (Err Rounds)
      ⊎ ((c : Certificate) × IsSearchedBy code bounds (Ok c) × (bounds.order < c.order))

  -- The search was given up, as what is told of it says.
  abbrev pub WasGivenUpBy : List ℕ → SolveBounds → Type 0
  WasGivenUpBy code bounds =
      IsSpent code bounds ⊎ ((bounds.rounds ≢ 0) × IsSearchedBy code bounds (Err Empty))

  -- An accepted certificate of the code, of a kind that is aimed at and of at most so many elements as
  -- are allowed, to which the search came.
  pub record IsFoundBy (code : List ℕ) (bounds : SolveBounds) (c : Certificate) : Type 0 where
    pub asked_for : IsAskedFor code bounds.aim c
    pub small : c.order ≤ bounds.order
    pub searched : IsSearchedBy code bounds (Ok c)

  -- what a search comes to: such a certificate, or it was given up
  abbrev pub ComesToBy : List ℕ → SolveBounds → Option Certificate → Type 0
  ComesToBy code bounds (Some c) = IsFoundBy code bounds c
  ComesToBy code bounds None = WasGivenUpBy code bounds

  -- The text says how the search was given up, with the reason where that is asked for. Where no round
  -- was asked for, all rounds were spent.
  abbrev pub TellsGivingUp : List ℕ → SolveBounds → List ℕ → Type 0
  TellsGivingUp code bounds text =
      (IsSpent code bounds × (text ≡ rounds_lines bounds.tells_why))
      ⊎ ((bounds.rounds ≢ 0) × IsSearchedBy code bounds (Err Empty) × IsGivingUpText bounds.tells_why text)

  -- what is said of a code, and whether a certificate was found
  abbrev pub FindsBy : List ℕ → SolveBounds → List ℕ → Bool → Type 0
  FindsBy code bounds text true = SpellsFound code bounds text
  FindsBy code bounds text false = TellsGivingUp code bounds text

  -- The word is a code's, and the text is a certificate of it, or says how the search for one was
  -- given up.
  abbrev pub SolvesBy : List ℕ → SolveBounds → List ℕ → Bool → Type 0
  SolvesBy word bounds text found = (code : List ℕ) × IsCodeText word code × FindsBy code bounds text found
