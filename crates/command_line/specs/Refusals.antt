-- When each fault of a command line is answered. This project's own.
use Rattle.std.specs.Prelude.{◌≡◌, ◌⊎◌, ◌&&◌, ⊤, Bool, true, false, not, List, Contains, Option, Some, None}
use Rattle.std.specs.Prelude.{Result, Ok, Err}
use Rattle.std.specs.List.{list_any}
use Rattle.std.specs.Option.{option_map_or}
use Rattle.clap.specs.Words.{Row, Text, IsAmong, fault_of, subcommand_of}
use Rattle.clap.specs.declared.error.kind.ErrorKind.{ErrorKind}
use Rattle.clap.specs.declared.error.kind.ErrorKind.TheVariants.{DisplayHelp, DisplayVersion}
use Rattle.command_line.specs.Numbers.{number_of}
use Rattle.command_line.specs.Plans.{HasNumbersWithin}
use Rattle.requests.specs.Requests.{request_of}
use Rattle.command_line.specs.Program.{program}
use Rattle.command_line.specs.Requests.{Asking, command_named, is_given}
use Rattle.requests.specs.declared.plans.Plan.{Plan}
use Rattle.command_line.specs.declared.faults.UsageFault.{UsageFault}
use Rattle.command_line.specs.declared.faults.UsageFault.TheVariants.{Memory, Help, Words, Number}
use Rattle.command_line.specs.declared.faults.UsageFault.TheVariants.{Exclusive, Incomplete}

-- ---- faults of a command's arguments

-- an argument that the command needs isn't there
abbrev pub lacks : Asking → List Row → Bool
lacks command rows = list_any (λ rule. rule.required && not (is_given rule.id rows))
    command.app.top.rules

-- what a fault says of a command's arguments
abbrev pub IsMistake : Asking → List Row → UsageFault → Type 0
IsMistake command rows Memory = ⊥
IsMistake command rows (Help text) = ⊥
IsMistake command rows (Words text) = ⊥
IsMistake command rows (Number quantity) =
    Contains (command.numbers rows) quantity × (number_of quantity rows ≡ None)
IsMistake command rows (Exclusive which) =
    (command.conflicts rows ≡ true) × (command.exclusion rows ≡ Some which)
IsMistake command rows Incomplete = lacks command rows ≡ true

-- the arguments ask for this, or else for nothing, for such a mistake; or memory was wanting
abbrev pub Answers : Asking → List Row → Result Plan UsageFault → Type 0
Answers command rows (Ok plan) =
    (command.request rows ≡ Some (request_of plan)) × HasNumbersWithin plan
    × (command.conflicts rows ≡ false)
Answers command rows (Err Memory) = ⊤
Answers command rows (Err fault) = (command.request rows ≡ None) × IsMistake command rows fault

-- the fault is one of the command that was found; where none was, the words are incomplete
abbrev pub IsMistakeOf : Option Asking → List Row → UsageFault → Type 0
IsMistakeOf None rows fault = fault ≡ Incomplete
IsMistakeOf (Some command) rows fault = IsMistake command rows fault

abbrev pub IsMistakeIn : Option (Text × List Row) → UsageFault → Type 0
IsMistakeIn None fault = fault ≡ Incomplete
IsMistakeIn (Some found) fault = IsMistakeOf (command_named found.0) found.1 fault

-- options of the command that was found exclude each other
abbrev pub conflicts_in : Option (Text × List Row) → Bool
conflicts_in found = option_map_or
    (λ f. option_map_or (λ c. c.conflicts f.1) (command_named f.0) false)
    found false

-- ---- faults of the words

-- whoever asks for help or for the version makes no mistake
abbrev pub IsHelp : ErrorKind → Type 0
IsHelp kind = (kind ≡ DisplayHelp) ⊎ (kind ≡ DisplayVersion)

-- the fault is one of reading the words, where that failed by this kind of error
abbrev pub IsOfKind : ErrorKind → UsageFault → Type 0
IsOfKind kind Memory = ⊤
IsOfKind kind (Help text) = IsHelp kind
IsOfKind kind (Words text) = IsHelp kind → ⊥
IsOfKind kind (Number quantity) = ⊥
IsOfKind kind (Exclusive which) = ⊥
IsOfKind kind Incomplete = ⊥

-- the command line doesn't take the words, for an error of such a kind
abbrev pub FailBy : (ErrorKind → Type 0) → List Text → Type 0
FailBy Is words = (kind : ErrorKind) × IsAmong kind (fault_of program words) × Is kind

-- the words ask for help or for the version
abbrev pub AsksForHelp : List Text → Type 0
AsksForHelp words = FailBy IsHelp words

-- what a fault says of the words: of want of memory nothing, of help that they ask for it, of
-- refused words that the command line does not take them for another reason, of the rest what is
-- wrong with the command that they name
abbrev pub IsFaultOf : List Text → UsageFault → Type 0
IsFaultOf words Memory = ⊤
IsFaultOf words (Help text) = AsksForHelp words
IsFaultOf words (Words text) = FailBy (λ kind. IsHelp kind → ⊥) words
IsFaultOf words (Number quantity) = IsMistakeIn (subcommand_of program words) (Number quantity)
IsFaultOf words (Exclusive which) = IsMistakeIn (subcommand_of program words) (Exclusive which)
IsFaultOf words Incomplete = IsMistakeIn (subcommand_of program words) Incomplete
