-- The steps of a desk's script, and the lines that spell them. This project's own.
use Rattle.std.specs.Prelude.{◌≡◌, ◌≢◌, ◌⊎◌, ◌≤◌, ◌<◌, ◌^◌, ℕ, List, [], ◌∷◌, ◌++◌, All, IsUtf8, codes, decimal}
use Rattle.positions.specs.declared.position.TheConstants.{MOST_SIZES, LARGEST_HEAP}
use Rattle.desk.specs.declared.step.TheConstants.{LARGEST_CLIENT, LARGEST_JOB}
use Rattle.positions.specs.Text.{IsTextOf, IsNoPositionText, HasTooMany, HasTooLarge}

-- Open client file limit, Work client job units, Drop client job, Ask client job position, Play
-- client job position
pub data Step : Type 0 where
  Open : ℕ → List ℕ → ℕ → Step
  Work : ℕ → ℕ → ℕ → Step
  Drop : ℕ → ℕ → Step
  Ask : ℕ → ℕ → List ℕ → Step
  Play : ℕ → ℕ → List ℕ → Step

-- the word by which a step begins
abbrev pub word_of : Step → List ℕ
word_of (Open client file limit) = codes "open"
word_of (Work client job units) = codes "work"
word_of (Drop client job) = codes "drop"
word_of (Ask client job position) = codes "ask"
word_of (Play client job position) = codes "play"

-- whose step it is
abbrev pub client_of : Step → ℕ
client_of (Open client file limit) = client
client_of (Work client job units) = client
client_of (Drop client job) = client
client_of (Ask client job position) = client
client_of (Play client job position) = client

abbrev pub IsClient : ℕ → Type 0
IsClient client = (1 ≤ client) × (client ≤ LARGEST_CLIENT)

abbrev pub IsJob : ℕ → Type 0
IsJob job = (1 ≤ job) × (job ≤ LARGEST_JOB)

-- these bytes don't stand in it
abbrev pub Lacks : ℕ → List ℕ → Type 0
Lacks byte bytes = All (λ b. b ≢ byte) bytes

-- a name of a file has some byte, and no space
abbrev pub IsFileName : List ℕ → Type 0
IsFileName file = (file ≢ []) × Lacks 32 file

-- the text isn't that of a position, or has too many sizes or a size that is too large
abbrev pub IsNoPosition : List ℕ → Type 0
IsNoPosition text = IsNoPositionText text ⊎ HasTooMany MOST_SIZES text
    ⊎ HasTooLarge MOST_SIZES LARGEST_HEAP text

-- the text is that of the position
abbrev pub IsPosition : List ℕ → List ℕ → Type 0
IsPosition text position = IsTextOf text position × (IsNoPosition text → ⊥)

-- two texts with one space between them
abbrev pub spaced : List ℕ → List ℕ → List ℕ
spaced front back = front ++ 32 ∷ back

-- a job, and a position in any of its texts
abbrev pub SpellsPosition : List ℕ → ℕ → List ℕ → Type 0
SpellsPosition tail job position =
    IsJob job × ((text : List ℕ) × IsPosition text position × (tail ≡ spaced (decimal job) text))

-- what stands behind the step's word and its client
abbrev pub SpellsTail : List ℕ → Step → Type 0
SpellsTail tail (Open client file limit) = IsFileName file × (limit < 2 ^ 32)
    × (tail ≡ spaced file (decimal limit))
SpellsTail tail (Work client job units) = IsJob job × (units < 2 ^ 64)
    × (tail ≡ spaced (decimal job) (decimal units))
SpellsTail tail (Drop client job) = IsJob job × (tail ≡ decimal job)
SpellsTail tail (Ask client job position) = SpellsPosition tail job position
SpellsTail tail (Play client job position) = SpellsPosition tail job position

-- The line, without its LF, spells the step: text of the step's word, its client, and the rest,
-- with single spaces.
pub record Spells (line : List ℕ) (step : Step) : Type 0 where
  pub text : IsUtf8 line
  pub client : IsClient (client_of step)
  pub tail : List ℕ
  pub spelled : SpellsTail tail step
  pub line_is : line ≡ spaced (word_of step) (spaced (decimal (client_of step)) tail)
