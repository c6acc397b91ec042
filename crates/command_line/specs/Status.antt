-- The exit status for a command line that asks for nothing, and what is told. This project's own.
use Rattle.std.specs.Prelude.{ℕ, codes, string_bytes}
use Rattle.clap.specs.Words.{Text}
use Rattle.command_line.specs.declared.faults.Exclusion.{Exclusion}
use Rattle.command_line.specs.declared.faults.Exclusion.TheVariants as exclusion
use Rattle.command_line.specs.declared.faults.UsageFault.{UsageFault}
use Rattle.command_line.specs.declared.faults.UsageFault.TheVariants.{Memory, Help, Words, Number}
use Rattle.command_line.specs.declared.faults.UsageFault.TheVariants.{Exclusive, Incomplete}
use Rattle.command_line.specs.declared.numbers.Quantity.{Quantity}
use Rattle.command_line.specs.declared.numbers.Quantity.TheVariants.{Limit, Rounds, Heaps, Order, Part, DeepOrder, Last, PartOrder, Furthest, SeriesLast}

-- help ends well, refused words with 2, want of memory with 3
abbrev pub status_of : UsageFault → ℕ
status_of Memory = 3
status_of (Help text) = 0
status_of (Words text) = 2
status_of (Number quantity) = 2
status_of (Exclusive which) = 2
status_of Incomplete = 2

abbrev pub range_text : Quantity → Text
range_text Limit = codes "misere: the limit is a number from 1 to 1000000\n"
range_text Rounds = codes "misere: the rounds are a number from 1 to 1000\n"
range_text Heaps = codes "misere: the heaps are a number from 2 to 64\n"
range_text Order = codes "misere: the order is a number from 2 to 256\n"
range_text Part = codes "misere: the heaps are a number from 0 to 1024\n"
range_text DeepOrder = codes "misere: the order is a number from 2 to 4096\n"
range_text Last = codes "misere: the heaps are a number from 1 to 1024\n"
range_text PartOrder = codes "misere: the order is a number from 2 to 4096\n"
range_text Furthest = codes "misere: the order is a number from 2 to 4096\n"
range_text SeriesLast = codes "misere: the heaps are a number from 1 to 1024\n"

abbrev pub exclusion_text : Exclusion → Text
exclusion_text exclusion.All = codes "misere: --all takes one position\n"
exclusion_text exclusion.Catalogue =
    codes "misere: --heaps goes with --get, --json with --table, --get without --new and --add, --salvage, --migrate and --table alone\n"
exclusion_text exclusion.Compare =
    codes "misere: standard input has one of the two certificates\n"
exclusion_text exclusion.Description = codes "misere: --latex goes without --relations\n"
exclusion_text exclusion.Explain = codes "misere: one of FILE, --code and --position\n"
exclusion_text exclusion.Outputs =
    codes "misere: one of --latex, --relations, --json, --singular, --gap, --gap-table, --structure and --presentation\n"
exclusion_text exclusion.Infinite = codes "misere: --show goes without POSITION\n"
exclusion_text exclusion.Layout = codes "misere: --latex or --json goes with --show, one of them\n"
exclusion_text exclusion.Play =
    codes "misere: standard input has the certificate or the positions\n"
exclusion_text exclusion.Solve =
    codes "misere: one of --heaps, --deep, --any, --partial and --furthest, and --furthest without --order\n"
exclusion_text exclusion.SolveInfinite =
    codes "misere: --infinite takes one code, and goes with --heaps, --presented and --why alone; --presented needs --infinite\n"

-- what is told of the fault
abbrev pub text_of : UsageFault → Text
text_of Memory = codes "misere: out of memory\n"
text_of (Help text) = string_bytes text
text_of (Words text) = string_bytes text
text_of (Number quantity) = range_text quantity
text_of (Exclusive which) = exclusion_text which
text_of Incomplete = codes "misere: no command; see misere --help\n"
