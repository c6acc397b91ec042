-- The numbers in which calls from C are told what they ask. This project's own.
use Rattle.std.specs.Prelude.{◌≡◌, ℕ}
use Rattle.heap_options.specs.declared.left.Left.{Left}
use Rattle.heap_options.specs.declared.left.Left.TheVariants.{Nothing, One, Two, Three}
use Rattle.positions.specs.declared.outcome.Outcome.{Outcome as Winner}
use Rattle.positions.specs.declared.outcome.Outcome.TheVariants.{P, N}
use Rattle.player.specs.declared.answering.Answer.{Answer}
use Rattle.player.specs.declared.answering.Answer.TheVariants.{Ended, Lost, Wins}
use Rattle.player.specs.declared.numbers.MisereAnswer.{MisereAnswer}

abbrev pub outcome_number : Winner → ℕ
outcome_number P = 0
outcome_number N = 1

-- the three numbers for what is left of a heap: its parts, rising, and 0 for each that isn't there
abbrev pub first_of : Left → ℕ
first_of Nothing = 0
first_of (One a) = a
first_of (Two a b) = a
first_of (Three a b c) = a

abbrev pub second_of : Left → ℕ
second_of Nothing = 0
second_of (One a) = 0
second_of (Two a b) = b
second_of (Three a b c) = b

abbrev pub third_of : Left → ℕ
third_of Nothing = 0
third_of (One a) = 0
third_of (Two a b) = 0
third_of (Three a b c) = c

-- the numbers of an answer that names no move
abbrev pub without_move : ℕ → MisereAnswer
without_move kind = record { kind = kind; heap = 0; first = 0; second = 0; third = 0 }

-- the numbers tell the answer
abbrev pub IsAnswerOf : Answer → MisereAnswer → Type 0
IsAnswerOf Ended n = n ≡ without_move 0
IsAnswerOf Lost n = n ≡ without_move 1
IsAnswerOf (Wins m) n =
    n ≡ record {
      kind = 2;
      heap = m.heap;
      first = first_of m.left;
      second = second_of m.left;
      third = third_of m.left;
    }
