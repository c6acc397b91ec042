-- All winning moves of a position. This project's own.
use Rattle.std.specs.Prelude.{◌≡◌, ◌≤◌, ◌<◌, ◌+◌, ◌-◌, ◌⊎◌, ℕ, Bool, true, false, List, [], ◌∷◌, ◌++◌, length, slice_index}
use Rattle.misere_theory.specs.Plays.{IsWinningMove}
use Rattle.heap_options.specs.Exact.{heaps_of}
use Rattle.heap_options.specs.declared.left.Left.{Left}
use Rattle.given_quotients.specs.declared.giving.Quotient.{Quotient}
use Rattle.given_quotients.specs.declared.giving.Quotient.TheVariants.{Presented}
use Rattle.positions.specs.declared.moves.Move.{Move}
use Rattle.player.specs.declared.answering.Answer.{Answer}
use Rattle.player.specs.declared.answering.Answer.TheVariants.{Ended, Lost, Wins}
use Rattle.presented_checker.specs.Refused.{Kept}
use Rattle.label_players.specs.Plays.{SpeaksOf}
use Rattle.position_commands.specs.PlayLines.{answer_line, beyond_line, win_line}
use Rattle.position_commands.specs.Kinds.{IsAnswerIn, code_of, looks_of, most_looks_of}
use Rattle.position_commands.specs.Lines.{many_line}
use Rattle.position_commands.specs.declared.wins.TheConstants.{MOST_LOOKS}

-- The lines of those of these options of a heap n of X that are winning moves, in their order.
pub data AreOptionWins (code X : List ℕ) (n : ℕ) : List Left → List ℕ → Type 0 where
  NoOption : AreOptionWins code X n [] []
  Winning : {lefts : List Left} {text : List ℕ} (left : Left)
      → IsWinningMove code X n (heaps_of left) → AreOptionWins code X n lefts text
      → AreOptionWins code X n (lefts ++ left ∷ []) (text ++ win_line n left)
  Losing : {lefts : List Left} {text : List ℕ} (left : Left)
      → (IsWinningMove code X n (heaps_of left) → ⊥) → AreOptionWins code X n lefts text
      → AreOptionWins code X n (lefts ++ left ∷ []) text

-- The same of what a player looks at of the first k heaps of X, of equal heaps once.
pub data AreHeapWins (q : Quotient) (X : List ℕ) : ℕ → List ℕ → Type 0 where
  NoHeap : AreHeapWins q X 0 []
  Again : {text : List ℕ} (k : ℕ) → 0 < k → slice_index X (k - 1) ≡ slice_index X k
      → AreHeapWins q X k text → AreHeapWins q X (k + 1) text
  Next : {text lines : List ℕ} (k : ℕ) → AreHeapWins q X k text
      → AreOptionWins (code_of q) X (slice_index X k) (looks_of q (slice_index X k)) lines
      → AreHeapWins q X (k + 1) (text ++ lines)

-- The text says that there is no winning move, by which of the two reasons; or it has the winning moves
-- that a player looks at; or there may be more to look at than MOST_LOOKS of a heap, and it says so.
pub data TellsWins (q : Quotient) (X text : List ℕ) (succeeds : Bool) : Type 0 where
  NoWin : (answer : Answer) → IsAnswerIn q X answer → (answer ≡ Ended) ⊎ (answer ≡ Lost)
      → text ≡ answer_line answer → succeeds ≡ true → TellsWins q X text succeeds
  SomeWin : (first : Move) → IsAnswerIn q X (Wins first) → most_looks_of q ≤ MOST_LOOKS
      → AreHeapWins q X (length X) text → succeeds ≡ true → TellsWins q X text succeeds
  Many : (first : Move) → IsAnswerIn q X (Wins first) → MOST_LOOKS < most_looks_of q
      → text ≡ many_line → succeeds ≡ false → TellsWins q X text succeeds

-- The same by a presentation. Or it doesn't speak of X, and the text says so.
abbrev pub TellsPresentedWins : Kept → List ℕ → List ℕ → Bool → Type 0
TellsPresentedWins k X text succeeds =
    (SpeaksOf k X × TellsWins (Presented k) X text succeeds)
    ⊎ ((SpeaksOf k X → ⊥) × (text ≡ beyond_line) × (succeeds ≡ false))
