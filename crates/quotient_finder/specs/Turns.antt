-- What a search says to its proposers, and when. This project's own.
use Rattle.std.specs.Prelude.{◌≡◌, ◌≢◌, ◌⊎◌, ℕ, List, ◌∷◌, Option, Some, None, Result, Ok, Err}
use Rattle.misere_theory.specs.Certificates.{Certificate, kind_of}
use Rattle.answers.specs.ByteVerdicts.ByteVerdict.{Yes}
use Rattle.check_machine.specs.Turns.{verdict}
use Rattle.quotient_finder.specs.Histories.{Event, Events}
use Rattle.quotient_finder.specs.Histories.Event.{Gave, Silent, Wanting, Told}
use Rattle.quotient_finder.specs.declared.reply.ProposerReply.{ProposerReply}
use Rattle.quotient_finder.specs.declared.reply.ProposerReply.TheVariants.{Found, Drafted, Nothing}

-- what came of asking a proposer, whose drafts have these bytes
abbrev pub given : {D E : Type 0} → (D → List ℕ) → Result (Option D) E → Event
given bytes (Ok (Some draft)) = Gave (bytes draft)
given bytes (Ok None) = Silent
given bytes (Err memory) = Wanting

-- the certificate is one of this code and kind
abbrev pub IsAsked : List ℕ → ℕ → Certificate → Type 0
IsAsked code kind c = (c.code ≡ code) × (kind_of c ≡ kind)

-- It was refused by its check with this limit, and its proposer was told so, once.
pub record IsTold (members : ℕ) (draft : List ℕ) (before after : Events) : Type 0 where
  pub refused : (c : Certificate) → verdict draft members ≢ Yes c
  pub told : after ≡ Told (verdict draft members) ∷ before

-- Its check with this limit gives a certificate of another code or kind, and nothing was told.
pub record IsDropped (code : List ℕ) (kind members : ℕ) (draft : List ℕ) (before after : Events)
    : Type 0 where
  pub c : Certificate
  pub accepted : verdict draft members ≡ Yes c
  pub other : IsAsked code kind c → ⊥
  pub untold : after ≡ before

-- what came of the check of a draft with this limit, and what its proposer was told
abbrev pub IsJudged : List ℕ → ℕ → ℕ → List ℕ → ProposerReply → Events → Events → Type 0
IsJudged code kind members draft (Found c) before after =
    (verdict draft members ≡ Yes c) × (after ≡ before)
IsJudged code kind members draft Drafted before after =
    IsTold members draft before after ⊎ IsDropped code kind members draft before after
IsJudged code kind members draft Nothing before after = ⊥

-- Memory was wanting to the check of the draft, or to the proposer that was told.
abbrev pub IsLost : ℕ → List ℕ → Events → Events → Type 0
IsLost members draft before after = (after ≡ before) ⊎ IsTold members draft before after

-- It gave this draft, of which this reply came.
pub record HasGiven (code : List ℕ) (kind members : ℕ) (reply : ProposerReply) (before after : Events)
    : Type 0 where
  pub draft : List ℕ
  pub judged : IsJudged code kind members draft reply (Gave draft ∷ before) after

-- what came of asking a proposer once: a draft and its check, or no draft
abbrev pub HasReplied : List ℕ → ℕ → ℕ → ProposerReply → Events → Events → Type 0
HasReplied code kind members Nothing before after = after ≡ Silent ∷ before
HasReplied code kind members Drafted before after = HasGiven code kind members Drafted before after
HasReplied code kind members (Found c) before after =
    HasGiven code kind members (Found c) before after

-- It was asked once, and memory was wanting: to it, to the check of its draft, or to it when it
-- was told.
abbrev pub HasWanted : ℕ → Events → Events → Type 0
HasWanted members before after = (after ≡ Wanting ∷ before)
    ⊎ ((draft : List ℕ) × IsLost members draft (Gave draft ∷ before) after)

-- what of a certificate is handed out
abbrev pub Sifts : List ℕ → ℕ → Certificate → ProposerReply → Type 0
Sifts code kind c (Found d) = (d ≡ c) × IsAsked code kind c
Sifts code kind c Drafted = IsAsked code kind c → ⊥
Sifts code kind c Nothing = ⊥
