-- Why a script ends before its end. This project's own.
use Rattle.std.specs.Prelude.{◌≡◌, ◌<◌, ◌⊎◌, ℕ, List, ◌∷◌, ◌++◌, Option, codes, decimal}
use Rattle.std.specs.Io.KnownBytes.{Appends}
use Rattle.streams.specs.Stream.{AppendsSome}
use Rattle.streams.specs.Printers.{Printer}
use Rattle.command_results.specs.Stops.{stop_line}
use Rattle.command_results.specs.declared.stop.Stop.TheVariants as stop
use Rattle.desk.specs.Scripts.{AreSteps, IsFirstOther}
use Rattle.desk.specs.Steps.{Step}
use Rattle.desk.specs.Steps.Step.{Open}
use Rattle.desk.specs.declared.fault.ScriptFault.{ScriptFault}
use Rattle.desk.specs.declared.fault.ScriptFault.TheVariants as fault
use Rattle.desk_command.specs.Scripts.{HasRunTo}
use Rattle.desk_command.specs.declared.stop.DeskStop.{DeskStop}
use Rattle.desk_command.specs.declared.stop.DeskStop.TheVariants.{NotAStep, Read, Write, Memory}

-- a line that isn't a step is a fault of usage
abbrev pub desk_stop_status : DeskStop → ℕ
desk_stop_status (NotAStep number) = 2
desk_stop_status (Read name) = 3
desk_stop_status Write = 3
desk_stop_status Memory = 3

-- what is told of a stop
abbrev pub desk_stop_line : DeskStop → List ℕ
desk_stop_line (NotAStep number) =
    codes "misere: line " ++ (decimal number ++ codes " isn't a step\n")
desk_stop_line (Read name) = stop_line (stop.Read name)
desk_stop_line Write = stop_line stop.Write
desk_stop_line Memory = stop_line stop.Memory

-- a script's fault as a stop
abbrev pub stop_of : ScriptFault → DeskStop
stop_of (fault.NotAStep number) = NotAStep number
stop_of fault.Memory = Memory

-- a read of this file failed, or none did and memory was wanting
abbrev pub IsReadCause : List ℕ → ℕ → ℕ → DeskStop → Type 0
IsReadCause file before after (Read name) = (name.now ≡ file) × (before < after)
IsReadCause file before after Memory = after ≡ before
IsReadCause file before after other = ⊥

-- a step stops where a read of the file that it opens failed, or where none did and memory was
-- wanting
abbrev pub IsStepCause : Step → ℕ → ℕ → DeskStop → Type 0
IsStepCause (Open client file limit) before after stop = IsReadCause file before after stop
IsStepCause step before after Memory = after ≡ before
IsStepCause step before after other = ⊥

-- the step opens a job on the file
abbrev pub IsOpenOf : List ℕ → Step → Type 0
IsOpenOf file (Open client name limit) = name ≡ file
IsOpenOf file other = ⊥

-- Why steps end before the last, by the reads that failed before and after: a read of a step's file
-- failed, and the lines of the steps before it stand; or what is printed failed, and a beginning of
-- the lines of some steps stands; or no device failed and memory was wanting, and the lines of some
-- steps stand.
abbrev pub Breaks : Option (List ℕ → Option (List ℕ)) → List Step → ℕ → ℕ → Printer → Printer
    → DeskStop → Type 0
Breaks files steps reads reads' old new (NotAStep number) = ⊥
Breaks files steps reads reads' old new (Read name) =
    (step : Step) × (left : List Step) × (lines : List ℕ) × HasRunTo files steps (step ∷ left) lines
    × IsOpenOf name.now step
    × Appends old.taken new.taken lines × (reads < reads')
Breaks files steps reads reads' old new Write =
    (left : List Step) × (lines : List ℕ) × HasRunTo files steps left lines
    × AppendsSome old.taken new.taken lines × (old.failures < new.failures)
Breaks files steps reads reads' old new Memory =
    (left : List Step) × (lines : List ℕ) × HasRunTo files steps left lines
    × Appends old.taken new.taken lines
    × (reads' ≡ reads) × (new.failures ≡ old.failures)

-- the same of a script's steps
abbrev pub BreaksOff : Option (List ℕ → Option (List ℕ)) → List ℕ → ℕ → ℕ → Printer → Printer
    → DeskStop → Type 0
BreaksOff files script reads reads' old new stop = (steps : List Step) × AreSteps script steps
    × Breaks files steps reads reads' old new stop

-- Why a script ends before its end: a line isn't a step, and nothing was done; or memory was
-- wanting before the first step, and nothing was done; or its steps end before the last.
abbrev pub IsStop : Option (List ℕ → Option (List ℕ)) → List ℕ → ℕ → ℕ → Printer → Printer
    → DeskStop → Type 0
IsStop files script reads reads' old new (NotAStep number) = IsFirstOther script number
    × (reads' ≡ reads) × (new ≡ old)
IsStop files script reads reads' old new Memory = ((reads' ≡ reads) × (new ≡ old))
    ⊎ BreaksOff files script reads reads' old new Memory
IsStop files script reads reads' old new stop = BreaksOff files script reads reads' old new stop
