-- Positions of heaps in which no move is possible.
use Rattle.std.proofs.Common.{ℕ, List, [], ◌∷◌, ◌++◌}
use Rattle.misere_theory.specs.Games.{IsHeapUpTo, Indistinguishable, IsP, IsPosition, Move}
use Rattle.misere_theory.specs.Games.IsP.{AllLose}
use Rattle.misere_theory.specs.Games.Move.{Here, There}
use Rattle.solve_command.specs.Series.{AreStill}

-- no position has a move
no_move : (code : List ℕ) (n : ℕ) (X Z : List ℕ) → AreStill code n → IsPosition (IsHeapUpTo n) X
    → Move code X Z → ⊥
no_move code n [] Z still at move = elim move [ ]
no_move code n (m ∷ X) Z still at (Here {H = H} option same) = still m at.0 (H, option)
no_move code n (m ∷ X) Z still at (There {X' = Y} move same) = no_move code n X Y still at.1 move

-- a sum of positions is one
both : (n : ℕ) (X Y : List ℕ) → IsPosition (IsHeapUpTo n) X → IsPosition (IsHeapUpTo n) Y
    → IsPosition (IsHeapUpTo n) (X ++ Y)
both n [] Y x y = y
both n (m ∷ X) Y x y = (x.0, both n X Y x.1 y)

-- none is lost for the player to move
never : (code : List ℕ) (n : ℕ) (X : List ℕ) → AreStill code n → IsPosition (IsHeapUpTo n) X
    → IsP code X → ⊥
never code n X still at (AllLose {Y = Y} move lose) = no_move code n X Y still at move

pub one_class : (code : List ℕ) (n : ℕ) (X Y : List ℕ) → AreStill code n
    → IsPosition (IsHeapUpTo n) X → IsPosition (IsHeapUpTo n) Y
    → Indistinguishable (IsHeapUpTo n) code X Y
one_class code n X Y still x y = λ Z z. (
  (λ p. absurd (never code n (X ++ Z) still (both n X Z x z) p)),
  (λ p. absurd (never code n (Y ++ Z) still (both n Y Z y z) p)),
)
