-- How a text was printed, and the status of that.
use Rattle.std.specs.Prelude.{◌≡◌, ℕ, Bool, List, Option, Some, None, if◌then◌else◌}
use Rattle.streams.specs.Printers.{Printer, Prints, PrintsSome, PrintsLine}
use Rattle.command_results.specs.Stops.{stop_line}
use Rattle.command_results.specs.declared.stop.Stop.TheVariants.{Write}

-- A text was printed, and the status is that of its run; or standard output failed, which is told,
-- with status 3.
pub data Printed (out out' err err' : Printer) (text : List ℕ) (succeeded status : ℕ) : Type 0 where
  Whole : Prints out out' text → err' ≡ err → status ≡ succeeded
      → Printed out out' err err' text succeeded status
  Part : PrintsSome out out' text → PrintsLine err err' (stop_line Write) → status ≡ 3
      → Printed out out' err err' text succeeded status

-- the line was told, and nothing where there is none
abbrev pub TellsNote : Printer → Printer → Option (List ℕ) → Type 0
TellsNote err err' None = err' ≡ err
TellsNote err err' (Some line) = PrintsLine err err' line

-- A text was printed, the line beside it was told, if there is one, and the status is that of its
-- run; or standard output failed, which alone is told, with status 3.
pub data PrintedWith (out out' err err' : Printer) (text : List ℕ) (note : Option (List ℕ))
    (succeeded status : ℕ) : Type 0 where
  Whole : Prints out out' text → TellsNote err err' note → status ≡ succeeded
      → PrintedWith out out' err err' text note succeeded status
  Part : PrintsSome out out' text → PrintsLine err err' (stop_line Write) → status ≡ 3
      → PrintedWith out out' err err' text note succeeded status

-- 0 for what ends well, 1 for a no or a refusal
abbrev pub status_if : Bool → ℕ
status_if succeeds = if succeeds then 0 else 1
