-- How a search goes in rounds over its proposers. This project's own.
use Rattle.std.specs.Prelude.{◌≡◌, ◌⊎◌, ◌<◌, ◌≤◌, ℕ, zero, suc, Bool, true, false, List, [], length, slice_index_or, Result, Ok, Err}
use Rattle.misere_theory.specs.Certificates.{Certificate}
use Rattle.quotient_finder.specs.Histories.{Events}
use Rattle.quotient_finder.specs.Turns.{HasReplied, HasWanted}
use Rattle.quotient_finder.specs.declared.gave_up.GaveUp.{GaveUp}
use Rattle.quotient_finder.specs.declared.gave_up.GaveUp.TheVariants.{Rounds, Empty, Memory}
use Rattle.quotient_finder.specs.declared.reply.ProposerReply.{ProposerReply}
use Rattle.quotient_finder.specs.declared.reply.ProposerReply.TheVariants.{Found, Drafted, Nothing}

-- what was said to the proposer at a place
abbrev pub said : List Events → ℕ → Events
said all place = slice_index_or all place []

-- the reply of a proposer that had a draft, or had none
abbrev pub missed : Bool → ProposerReply
missed true = Drafted
missed false = Nothing

-- What is asked of proposers: a certificate of this code and kind, checked with this limit.
module _ (code : List ℕ) (kind members : ℕ) where
  -- It was asked once, and no certificate of the code and kind came of it.
  abbrev pub HasMissed : Events → Events → Type 0
  HasMissed before after = (drafted : Bool) × HasReplied code kind members (missed drafted) before after

  -- A round that has come to this place: each proposer before it was asked once, no other one was,
  -- and it is known whether one of them had a draft.
  pub record HasComeTo (place : ℕ) (drafted : Bool) (olds news : List Events) : Type 0 where
    pub same : length news ≡ length olds
    pub asked : (k : ℕ) → k < place → HasMissed (said olds k) (said news k)
    pub others : (k : ℕ) → place ≤ k → said news k ≡ said olds k
    pub some : drafted ≡ true → (k : ℕ) × (k < place)
        × HasReplied code kind members Drafted (said olds k) (said news k)
    pub none : drafted ≡ false → (k : ℕ) → k < place
        → HasReplied code kind members Nothing (said olds k) (said news k)

  -- A round that ended at some place: each proposer before it was asked once, in vain, this one as
  -- is said, and none behind it.
  pub record HasStopped (Last : Events → Events → Type 0) (olds news : List Events) : Type 0 where
    pub place : ℕ
    pub within : place < length olds
    pub same : length news ≡ length olds
    pub asked : (k : ℕ) → k < place → HasMissed (said olds k) (said news k)
    pub last : Last (said olds place) (said news place)
    pub others : (k : ℕ) → place < k → said news k ≡ said olds k

  -- a round in which each proposer was asked once, but none behind one that found a certificate
  abbrev pub IsRound : ProposerReply → List Events → List Events → Type 0
  IsRound (Found c) olds news = HasStopped (HasReplied code kind members (Found c)) olds news
  IsRound Drafted olds news = HasComeTo (length olds) true olds news
  IsRound Nothing olds news = HasComeTo (length olds) false olds news

  -- a round that ended with want of memory
  abbrev pub IsBroken : List Events → List Events → Type 0
  IsBroken olds news = HasStopped (HasWanted members) olds news

  -- so many rounds, each with a draft, and none with a certificate of the code and kind
  abbrev pub HasRounds : ℕ → List Events → List Events → Type 0
  HasRounds zero olds news = news ≡ olds
  HasRounds (suc n) olds news = (middle : List Events) × HasRounds n olds middle
      × IsRound Drafted middle news

  -- Fewer than so many such rounds, and then a last one, as is said.
  pub record HasEnded (rounds : ℕ) (Last : List Events → List Events → Type 0)
      (olds news : List Events) : Type 0 where
    pub count : ℕ
    pub within : count < rounds
    pub middle : List Events
    pub before : HasRounds count olds middle
    pub last : Last middle news

  -- what a search of at most so many rounds said to its proposers
  abbrev pub HasSearched : ℕ → List Events → List Events → Result Certificate GaveUp → Type 0
  HasSearched rounds olds news (Ok c) = HasEnded rounds (IsRound (Found c)) olds news
  HasSearched rounds olds news (Err Rounds) = HasRounds rounds olds news
  HasSearched rounds olds news (Err Empty) =
      ((olds ≡ []) × (news ≡ olds)) ⊎ HasEnded rounds (IsRound Nothing) olds news
  HasSearched rounds olds news (Err Memory) = HasEnded rounds IsBroken olds news
