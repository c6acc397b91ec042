-- How the run of a script ends: what was printed and told, and the status. This project's own.
use Rattle.std.specs.Prelude.{◌≡◌, ◌≤◌, ℕ, List, Option, length}
use Rattle.streams.specs.Files.{Holds}
use Rattle.streams.specs.Printers.{Printer, PrintsLine}
use Rattle.command_results.specs.Stops.{IsFileCause, stop_line}
use Rattle.command_results.specs.declared.stop.Stop.{Stop}
use Rattle.desk_command.specs.Scripts.{Runs}
use Rattle.desk_command.specs.Stops.{IsStop, desk_stop_line, desk_stop_status}
use Rattle.desk_command.specs.declared.stop.DeskStop.{DeskStop}
use Rattle.desk_command.specs.declared.whole.TheConstants.{LARGEST_SCRIPT}

-- What was done with the script of this file, which isn't larger than it may be.
--   Whole: every step was taken, and the lines of the replies were printed.
--   Broken: it ended before its end, for a cause that is told; the lines so far stand.
--   Unread: the file couldn't be read, for a cause that is told, and nothing is printed.
pub data EndsScript (files : Option (List ℕ → Option (List ℕ))) (file : List ℕ) (reads reads' : ℕ)
    (out out' err err' : Printer) (status : ℕ) : Type 0 where
  Whole : (script : List ℕ) → Holds files file script → length script ≤ LARGEST_SCRIPT
      → Runs files script out.taken out'.taken → err' ≡ err → status ≡ 0
      → EndsScript files file reads reads' out out' err err' status
  Broken : (script : List ℕ) (stop : DeskStop) → Holds files file script
      → length script ≤ LARGEST_SCRIPT → IsStop files script reads reads' out out' stop
      → PrintsLine err err' (desk_stop_line stop) → status ≡ desk_stop_status stop
      → EndsScript files file reads reads' out out' err err' status
  Unread : (stop : Stop) → IsFileCause file reads reads' stop → out' ≡ out
      → PrintsLine err err' (stop_line stop) → status ≡ 3
      → EndsScript files file reads reads' out out' err err' status
