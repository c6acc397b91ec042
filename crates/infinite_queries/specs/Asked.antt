-- What is told of bytes of whole games and presentations, and of positions by one that is opened. This project's own.
use Rattle.std.specs.Prelude.{◌≡◌, ◌⊎◌, ◌++◌, ◌-◌, ℕ, List, All, IsPermutation, codes}
use Rattle.std.specs.List.Sorted.{IsNonDecreasing}
use Rattle.std.specs.declared.option.Option.{Option}
use Rattle.misere_theory.specs.Games.{IsHeap, IsPosition}
use Rattle.dominance_text.specs.Spelling.{SpellsDominance}
use Rattle.answers.specs.InfiniteAnswers.{Why, Text, Outcome as Fails}
use Rattle.whole_checker.specs.Solved.{IsRefutedWhole, IsSolved}
use Rattle.presented_text.specs.Spelling.{SpellsPresented}
use Rattle.presented_tables.specs.Tested.{HasWord}
use Rattle.presented_checker.specs.Refused.{IsRight, IsTrueOfBytes}
use Rattle.opened.specs.Texts.{code_of}
use Rattle.opened.specs.declared.text.AcceptedText.{AcceptedText}
use Rattle.opened.specs.declared.text.AcceptedText.TheVariants.{Whole, Presented}
use Rattle.positions.specs.Positions.{IsSize}
use Rattle.positions.specs.Outcomes.{HasOutcome}
use Rattle.positions.specs.declared.outcome.Outcome.{Outcome}
use Rattle.player.specs.Answers.{IsTriedAnswer}
use Rattle.player.specs.declared.answering.Answer.{Answer}
use Rattle.player.specs.Numbers.{outcome_number, IsAnswerOf}
use Rattle.player.specs.Asked.{AreNoEnds, CutInto, IsNoPosition, IsOpened, IsUnopened}
use Rattle.player.specs.declared.numbers.MisereAnswer.{MisereAnswer}
use Rattle.infinite_queries.specs.Numbers.{status_of}

-- ---- bytes

-- The bytes spell a text that is right, and this is what is kept of it.
abbrev pub IsShownBy : List ℕ → AcceptedText → Type 0
IsShownBy bytes (Whole c) = SpellsDominance bytes c × IsSolved c
IsShownBy bytes (Presented k) = SpellsPresented bytes k.said × IsRight k

-- The bytes spell a text that is right, and the rest is true of what is kept of it.
abbrev pub AreShown : List ℕ → (AcceptedText → Type 0) → Type 0
AreShown bytes says = (s : AcceptedText) × IsShownBy bytes s × says s

-- The bytes begin with the first word of presentations.
abbrev pub BeginsPresented : List ℕ → Type 0
BeginsPresented bytes = (rest : List ℕ) × (bytes ≡ codes "mqp " ++ rest)

-- The refusal is true of the bytes. With Text they spell neither a text of a whole game nor a presentation. Every other
-- one is true of the one that they spell.
abbrev pub IsTrueOfKinds : List ℕ → Why → Type 0
IsTrueOfKinds bytes Text = IsRefutedWhole bytes Text × IsTrueOfBytes bytes Text
IsTrueOfKinds bytes why = IsRefutedWhole bytes why ⊎ IsTrueOfBytes bytes why

-- The status is the number of a refusal that is true of the bytes.
abbrev pub AreRefused : List ℕ → ℕ → Type 0
AreRefused bytes status = (why : Why) × (status ≡ status_of why) × IsTrueOfKinds bytes why

-- the bytes are refused, truly, since the rule of their code's game fails at this position
abbrev pub FailsAt : List ℕ → List ℕ → Type 0
FailsAt bytes X = (code : List ℕ) × IsTrueOfKinds bytes (Fails code X)

-- ---- positions

-- The text speaks of the heap: of each if it is a text of a whole game, and of one that has a word if it is a
-- presentation.
abbrev pub IsSpokenOf : AcceptedText → ℕ → Type 0
IsSpokenOf (Whole c) = IsHeap
IsSpokenOf (Presented k) = HasWord k.said

-- The text speaks of each heap of the position.
abbrev pub SpeaksOf : AcceptedText → List ℕ → Type 0
SpeaksOf s X = IsPosition (IsSpokenOf s) X

-- The right answer in the position. A move is the first one that wins of those that leave at most one heap from start
-- on, by a text of a whole game; and of those whose parts but the largest are heaps of its list, by a presentation.
abbrev pub IsAnswerIn : AcceptedText → List ℕ → Answer → Type 0
IsAnswerIn (Whole c) X a = IsTriedAnswer c.code (λ _. c.start - 1) X a
IsAnswerIn (Presented k) X a = IsTriedAnswer k.said.code (λ _. k.said.heaps) X a

-- the number of the outcome of the position of these heaps, of which the text speaks
abbrev pub TellsOutcome : List ℕ → ℕ → AcceptedText → Type 0
TellsOutcome heaps n s =
    SpeaksOf s heaps × ((o : Outcome) × (n ≡ outcome_number o) × HasOutcome (code_of s) heaps o)

-- the numbers are those of the right answer in the position
abbrev pub TellsRight : AcceptedText → MisereAnswer → List ℕ → Type 0
TellsRight s n X = (a : Answer) × IsAnswerOf a n × IsAnswerIn s X a

-- the right answer in the position of these heaps, rising, of which the text speaks
abbrev pub TellsAnswer : List ℕ → MisereAnswer → AcceptedText → Type 0
TellsAnswer heaps n s =
    SpeaksOf s heaps
    × ((X : List ℕ) × IsPermutation heaps X × IsNonDecreasing X × TellsRight s n X)

-- These are heaps, and the text doesn't speak of them all.
abbrev pub LeavesOut : List ℕ → AcceptedText → Type 0
LeavesOut heaps s = All IsSize heaps × (SpeaksOf s heaps → ⊥)

-- Why nothing is told of a position by this text.
abbrev pub IsUnanswered : AcceptedText → List ℕ → ℕ → Type 0
IsUnanswered s heaps status = IsNoPosition heaps status ⊎ ((status ≡ 23) × LeavesOut heaps s)

-- Why nothing is told of a position by what is opened.
abbrev pub IsNoAnswer : Option AcceptedText → List ℕ → ℕ → Type 0
IsNoAnswer opened heaps status =
    IsUnopened opened status ⊎ IsOpened opened (λ s. IsUnanswered s heaps status)

-- Why nothing is told of the positions by this text: the ends don't cut the heaps into them, or
-- they do, and nothing is told of the heaps.
abbrev pub AreUnanswered : AcceptedText → List ℕ → List ℕ → ℕ → ℕ → Type 0
AreUnanswered s heaps ends room status =
    AreNoEnds heaps ends room status ⊎ (CutInto heaps ends room × IsUnanswered s heaps status)

-- Why nothing is told of the positions by what is opened.
abbrev pub IsNoAnswerToMany : Option AcceptedText → List ℕ → List ℕ → ℕ → ℕ → Type 0
IsNoAnswerToMany opened heaps ends room status =
    IsUnopened opened status ⊎ IsOpened opened (λ s. AreUnanswered s heaps ends room status)

-- Why no answers are told of the positions by what is opened: as before, or memory was refused.
abbrev pub AreNoAnswers : Option AcceptedText → List ℕ → List ℕ → ℕ → ℕ → Type 0
AreNoAnswers opened heaps ends room status =
    IsUnopened opened status
    ⊎ IsOpened opened (λ s. AreUnanswered s heaps ends room status ⊎ (status ≡ 9))
