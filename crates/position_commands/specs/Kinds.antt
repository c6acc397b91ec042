-- What a quotient of any kind says of positions. This project's own.
use Rattle.std.specs.Prelude.{ℕ, ◌+◌, ◌-◌, ◌*◌, List, length, if◌then◌else◌}
use Rattle.misere_theory.specs.Certificates.{IsHeapOf}
use Rattle.misere_theory.specs.Games.{IsHeap, IsPosition, leaves_three}
use Rattle.heap_options.specs.Options.{options_up_to}
use Rattle.heap_options.specs.declared.left.Left.{Left}
use Rattle.given_quotients.specs.declared.giving.Quotient.{Quotient}
use Rattle.given_quotients.specs.declared.giving.Quotient.TheVariants.{Finite, Whole, Presented}
use Rattle.player.specs.Answers.{IsRightAnswer, IsTriedAnswer}
use Rattle.player.specs.declared.answering.Answer.{Answer}
use Rattle.presented_tables.specs.Tested.{HasWord}

-- the code of the game
abbrev pub code_of : Quotient → List ℕ
code_of (Finite c) = c.code
code_of (Whole c) = c.code
code_of (Presented k) = k.said.code

-- the heaps of which the quotient speaks
abbrev pub HeapIn : Quotient → ℕ → Type 0
HeapIn (Finite c) n = IsHeapOf c n
HeapIn (Whole c) n = IsHeap n
HeapIn (Presented k) n = HasWord k.said n

abbrev pub SpeaksIn : Quotient → List ℕ → Type 0
SpeaksIn q X = IsPosition (HeapIn q) X

-- what a player answers in a position
abbrev pub IsAnswerIn : Quotient → List ℕ → Answer → Type 0
IsAnswerIn (Finite c) X a = IsRightAnswer c.code X a
IsAnswerIn (Whole c) X a = IsTriedAnswer c.code (λ _. c.start - 1) X a
IsAnswerIn (Presented k) X a = IsTriedAnswer k.said.code (λ _. k.said.heaps) X a

-- A player looks at the options whose parts but the largest are at most so large: below start + period; below the start
-- of a whole game; or heaps of the list of a presentation.
abbrev pub most_of : Quotient → ℕ
most_of (Finite c) = c.start + c.period - 1
most_of (Whole c) = c.start - 1
most_of (Presented k) = k.said.heaps

-- the options of the heap n that a player looks at, in the order of moves
abbrev pub looks_of : Quotient → ℕ → List Left
looks_of q n = options_up_to (code_of q) n (most_of q)

-- two more than that
abbrev pub parts_of : Quotient → ℕ
parts_of (Finite c) = c.start + c.period + 1
parts_of (Whole c) = c.start + 1
parts_of (Presented k) = k.said.heaps + 2

-- as many options are looked at at most
abbrev pub most_looks_of : Quotient → ℕ
most_looks_of q =
    if leaves_three (code_of q)
    then length (code_of q) * (parts_of q * parts_of q)
    else length (code_of q) * parts_of q
