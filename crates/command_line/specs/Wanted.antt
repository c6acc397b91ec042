-- What is asked for, and which words ask for it. This project's own.
use Rattle.std.specs.Prelude.{◌≡◌, false, List, Option, Some, None}
use Rattle.clap.specs.Words.{Row, Text, subcommand_of}
use Rattle.command_line.specs.Plans.{HasNumbersWithin}
use Rattle.command_line.specs.Program.{program}
use Rattle.command_line.specs.Refusals.{conflicts_in}
use Rattle.command_line.specs.Requests.{plan_of, request_in, word_in, word_of, word_request_of}
use Rattle.command_line.specs.declared.wanted.Asked.{Asked}
use Rattle.command_line.specs.declared.wanted.Asked.TheVariants.{Plan, Word}
use Rattle.requests.specs.Requests.{request_of}

-- A command asks for this with its arguments: for a plan, whose numbers lie in their ranges, and no
-- options that exclude each other are given; or for a word, and for no plan.
abbrev pub IsAskedIn : Option (Text × List Row) → Asked → Type 0
IsAskedIn found (Plan plan) =
    (request_in found ≡ Some (request_of plan)) × HasNumbersWithin plan
    × (conflicts_in found ≡ false)
IsAskedIn found (Word word) = (word_in found ≡ Some (word_request_of word)) × (request_in found ≡ None)

-- The words of a command line, the program's name first, ask for this.
abbrev pub IsAskedBy : List Text → Asked → Type 0
IsAskedBy words (Plan plan) =
    (plan_of words ≡ Some (request_of plan)) × HasNumbersWithin plan
    × (conflicts_in (subcommand_of program words) ≡ false)
IsAskedBy words (Word word) = (word_of words ≡ Some (word_request_of word)) × (plan_of words ≡ None)
