-- What a player answers in a position, and when the answer is right. This project's own.
use Rattle.std.specs.Prelude.{◌≡◌, ◌↔◌, ℕ, List}
use Rattle.misere_theory.specs.Certificates.{Certificate, IsHeapOf}
use Rattle.misere_theory.specs.Games.{IsPosition, Move, HeapMove, IsP}
use Rattle.misere_theory.specs.Plays.{IsFirstWin, Keeps}
use Rattle.heap_options.specs.Exact.{heaps_of}
use Rattle.positions.specs.declared.moves.Move.{Move as MoveMade}
use Rattle.player.specs.Wins.{IsFirstTried}
use Rattle.player.specs.declared.answering.Answer.{Answer}
use Rattle.player.specs.declared.answering.Answer.TheVariants.{Ended, Lost, Wins}

-- The certificate speaks of each heap of the position.
abbrev pub SpeaksOf : Certificate → List ℕ → Type 0
SpeaksOf c X = IsPosition (IsHeapOf c) X

-- The move is the first one of those that are meant, and whoever makes it, and answers each move by the
-- first winning one, wins.
pub record WinsBy (is_first : ℕ → List ℕ → Type 0) (code X : List ℕ) (m : MoveMade) : Type 0 where
  pub first : is_first m.heap (heaps_of m.left)
  pub keeps : (Y : List ℕ) → HeapMove code X m.heap (heaps_of m.left) Y → Keeps code Y

-- Ended exactly where there is no move, Lost exactly at P-positions, and a move that is answered is the
-- first of those that are meant.
pub record IsAnswerBy (is_first : ℕ → List ℕ → Type 0) (code X : List ℕ) (a : Answer) : Type 0 where
  pub ended : (a ≡ Ended) ↔ ((Y : List ℕ) → Move code X Y → ⊥)
  pub lost : (a ≡ Lost) ↔ IsP code X
  pub wins : (m : MoveMade) → a ≡ Wins m → WinsBy is_first code X m

-- The move that is answered is the first that wins.
abbrev pub IsRightAnswer : List ℕ → List ℕ → Answer → Type 0
IsRightAnswer code X a = IsAnswerBy (IsFirstWin code X) code X a

-- The move that is answered is the first that wins of those that are tried.
abbrev pub IsTriedAnswer : List ℕ → (ℕ → ℕ) → List ℕ → Answer → Type 0
IsTriedAnswer code most X a = IsAnswerBy (IsFirstTried code most X) code X a
