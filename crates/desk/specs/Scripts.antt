-- Scripts: steps line by line. This project's own.
use Rattle.std.specs.Prelude.{◌≡◌, ◌≢◌, ⊤, ℕ, ◌+◌, List, [], ◌∷◌, ◌++◌, length}
use Rattle.desk.specs.Steps.{Lacks, Spells, Step}
use Rattle.desk.specs.declared.fault.ScriptFault.{ScriptFault}
use Rattle.desk.specs.declared.fault.ScriptFault.TheVariants.{NotAStep, Memory}

-- Each line, ended by its LF, spells a step; these are the steps in their order.
pub data AreSteps : List ℕ → List Step → Type 0 where
  NoLine : AreSteps [] []
  Line : {line rest : List ℕ} {step : Step} {steps : List Step} → Lacks 10 line → Spells line step
      → AreSteps rest steps
      → AreSteps (line ++ 10 ∷ rest) (step ∷ steps)

-- the text begins with a line that spells the step, and the rest stands behind it
abbrev pub BeginsWith : List ℕ → Step → List ℕ → Type 0
BeginsWith text step rest = (line : List ℕ) × (text ≡ line ++ 10 ∷ rest) × Lacks 10 line
    × Spells line step

-- what the text begins with is no line that spells a step
abbrev pub BeginsOtherwise : List ℕ → Type 0
BeginsOtherwise text = (line rest : List ℕ) (step : Step) → text ≡ line ++ 10 ∷ rest → Lacks 10 line
    → Spells line step → ⊥

-- The line of this number, counted from 1, is the first that isn't a step: it spells none, or no LF
-- ends it.
pub record IsFirstOther (script : List ℕ) (number : ℕ) : Type 0 where
  pub front : List ℕ
  pub back : List ℕ
  pub steps : List Step
  pub script_is : script ≡ front ++ back
  pub are_steps : AreSteps front steps
  pub number_is : number ≡ length steps + 1
  pub some : back ≢ []
  pub other : BeginsOtherwise back

-- what a fault says of the script: of want of memory nothing
abbrev pub IsFaultOf : List ℕ → ScriptFault → Type 0
IsFaultOf script (NotAStep number) = IsFirstOther script number
IsFaultOf script Memory = ⊤
