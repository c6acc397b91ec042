-- What is printed for an answer of a player. This project's own.
use Rattle.std.specs.Prelude.{ℕ, List, ◌++◌, codes, decimal}
use Rattle.heap_options.specs.declared.left.Left.{Left}
use Rattle.heap_options.specs.declared.left.Left.TheVariants.{Nothing, One, Two, Three}
use Rattle.player.specs.declared.answering.Answer.{Answer}
use Rattle.player.specs.declared.answering.Answer.TheVariants.{Ended, Lost, Wins}

-- the heap that is taken, and one size that is left
abbrev pub one_line : ℕ → ℕ → List ℕ
one_line heap a = codes "wins " ++ decimal heap ++ codes " -> " ++ decimal a ++ codes "\n"

-- the heap that is taken, and two sizes that are left
abbrev pub two_line : ℕ → ℕ → ℕ → List ℕ
two_line heap a b = codes "wins " ++ decimal heap ++ codes " -> " ++ decimal a ++ codes " "
    ++ decimal b ++ codes "\n"

-- the heap that is taken, and three sizes that are left
abbrev pub three_line : ℕ → ℕ → ℕ → ℕ → List ℕ
three_line heap a b c = codes "wins " ++ decimal heap ++ codes " -> " ++ decimal a ++ codes " "
    ++ decimal b ++ codes " " ++ decimal c ++ codes "\n"

-- the heap that is taken, and what is left of it, 0 for nothing
abbrev pub win_line : ℕ → Left → List ℕ
win_line heap Nothing = codes "wins " ++ decimal heap ++ codes " -> 0\n"
win_line heap (One a) = one_line heap a
win_line heap (Two a b) = two_line heap a b
win_line heap (Three a b c) = three_line heap a b c

-- the line of an answer
abbrev pub answer_line : Answer → List ℕ
answer_line Ended = codes "ended\n"
answer_line Lost = codes "lost\n"
answer_line (Wins m) = win_line m.heap m.left

-- the line where a certificate doesn't speak of a position
abbrev pub beyond_line : List ℕ
beyond_line = codes "refused 23 Beyond\n"

-- the line of a line that is no position
abbrev pub no_position_line : List ℕ
no_position_line = codes "not a position\n"
