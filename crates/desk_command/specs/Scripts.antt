-- What is printed of a script: the lines of the machine's replies to its steps. This project's own.
use Rattle.std.specs.Prelude.{◌≡◌, ⊤, ℕ, List, [], ◌∷◌, ◌++◌, Option}
use Rattle.std.specs.Io.KnownBytes.{Appends}
use Rattle.check_machine.specs.Turns.{cost, verdict}
use Rattle.desk.specs.Machine.{Call, Reply, State, Step as MachineStep}
use Rattle.desk.specs.Runs.{Run, nothing_open}
use Rattle.desk.specs.Scripts.{AreSteps}
use Rattle.desk.specs.Steps.{IsClient, Step, client_of}
use Rattle.desk_command.specs.Calls.{AreCalls, IsCall}
use Rattle.desk_command.specs.Lines.{AreLinesOf, IsLineOf}

-- A step's call was one step of the machine, and this is the line of its reply.
pub record Takes (files : Option (List ℕ → Option (List ℕ))) (step : Step) (old new : State)
    (line : List ℕ) : Type 0 where
  pub asked : Call
  pub reply : Reply
  pub is_call : IsCall files step asked
  pub stepped : MachineStep cost verdict old asked reply new
  pub is_line : IsLineOf reply line

-- From a new desk on, the machine took these steps, one after another; it is in this state then,
-- and these are the lines of its replies.
pub record HaveRun (files : Option (List ℕ → Option (List ℕ))) (steps : List Step) (end : State)
    (lines : List ℕ) : Type 0 where
  pub calls : List Call
  pub replies : List Reply
  pub are_calls : AreCalls files steps calls
  pub run : Run (MachineStep cost verdict) nothing_open calls replies end
  pub are_lines : AreLinesOf replies lines

-- The machine took the first of the steps, these are left, and the lines of its replies are these.
pub record HasRunTo (files : Option (List ℕ → Option (List ℕ))) (steps left : List Step)
    (lines : List ℕ) : Type 0 where
  pub done : List Step
  pub end : State
  pub steps_are : steps ≡ done ++ left
  pub have_run : HaveRun files done end lines

-- the machine took all steps of the script, and the lines of its replies went out
abbrev pub Runs : Option (List ℕ → Option (List ℕ)) → List ℕ → Option (List ℕ) → Option (List ℕ)
    → Type 0
Runs files script before after =
    (steps : List Step) × AreSteps script steps
    × ((lines : List ℕ) × HasRunTo files steps [] lines × Appends before after lines)

-- each is a client's
abbrev pub HaveClients : List Step → Type 0
HaveClients [] = ⊤
HaveClients (step ∷ steps) = IsClient (client_of step) × HaveClients steps
