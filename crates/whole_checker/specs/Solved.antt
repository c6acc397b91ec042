-- When a text of a whole game is right, and when it is refused: the third headline. After Plambeck and
-- Siegel's misère quotients; the triples are this project's own.
use Rattle.std.specs.Prelude.{◌≡◌, ◌↔◌, ℕ, List}
use Rattle.misere_theory.specs.Games.{IsHeap, IsPosition, Indistinguishable}
use Rattle.misere_theory.specs.Labels.{PredictsOutcomes, BreaksRule, says_by}
use Rattle.misere_theory.specs.Parts.{IsInfinite}
use Rattle.misere_theory.specs.Quotients.{Claim, Represents}
use Rattle.dominance.specs.Finite.{HasSmallWins}
use Rattle.dominance.specs.Triples.{claim_by, triple_of}
use Rattle.dominance_text.specs.Said.{DominanceSaid}
use Rattle.dominance_text.specs.Labels.{label_of}
use Rattle.dominance_text.specs.Spelling.{SpellsDominance}
use Rattle.answers.specs.InfiniteAnswers.{Why, Text, Outcome, Undecided, Memory}

-- What is said is right of the whole game, of any number of heaps of any size. The product of the heaps'
-- triples tells the outcome of each position, and two positions are indistinguishable exactly if their
-- triples are equal. There are infinitely many classes, and no finite claim is the quotient. If a move wins,
-- one wins that leaves at most one heap from start on.
pub record IsSolved (c : DominanceSaid) : Type 0 where
  pub predicts : PredictsOutcomes IsHeap c.code (says_by (claim_by (label_of c)))
  pub indistinguishable : (X Y : List ℕ) → IsPosition IsHeap X → IsPosition IsHeap Y
      → Indistinguishable IsHeap c.code X Y ↔ (triple_of (label_of c) X ≡ triple_of (label_of c) Y)
  pub infinite : IsInfinite IsHeap c.code
  pub no_claim : (d : Claim) → Represents IsHeap c.code d → ⊥
  pub wins : HasSmallWins c.code c.start

-- What is said of the game of this code breaks the rule of misère outcomes at the position X: so it is wrong
-- of X, or of one of its options.
abbrev pub BreaksAt : DominanceSaid → List ℕ → List ℕ → Type 0
BreaksAt c code X =
    (code ≡ c.code) × IsPosition IsHeap X × BreaksRule code (says_by (claim_by (label_of c))) X

-- The bytes are refused: Text if they spell nothing, Memory at any time, and Undecided if they spell
-- something that the test doesn't show to be right. It may be right all the same.
abbrev pub IsRefusedWhole : List ℕ → Why → Type 0
IsRefusedWhole bytes Text = (c : DominanceSaid) → SpellsDominance bytes c → ⊥
IsRefusedWhole bytes Undecided = (c : DominanceSaid) × SpellsDominance bytes c
IsRefusedWhole bytes Memory = Unit {0}
IsRefusedWhole bytes _ = ⊥

-- The same, and with a position if what they spell breaks the rule there.
abbrev pub IsRefutedWhole : List ℕ → Why → Type 0
IsRefutedWhole bytes (Outcome code X) =
    (c : DominanceSaid) × SpellsDominance bytes c × BreaksAt c code X
IsRefutedWhole bytes why = IsRefusedWhole bytes why
