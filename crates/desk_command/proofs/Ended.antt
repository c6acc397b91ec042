-- How the run of a script ends, from how its steps do.
use Rattle.std.proofs.Common.{◌≡◌, ◌≤◌, ℕ, List, Option, length, refl, subst}
use Rattle.streams.specs.Files.{Holds}
use Rattle.streams.specs.Printers.{Printer, PrintsLine}
use Rattle.desk_command.specs.Ends.{EndsScript}
use Rattle.desk_command.specs.Ends.EndsScript.{Whole, Broken}
use Rattle.desk_command.specs.Scripts.{Runs}
use Rattle.desk_command.specs.Stops.{IsStop, desk_stop_line, desk_stop_status}
use Rattle.desk_command.specs.declared.stop.DeskStop.{DeskStop}
use Rattle.desk_command.specs.declared.whole.TheConstants.{LARGEST_SCRIPT}

module _ (files now : Option (List ℕ → Option (List ℕ))) (file held script : List ℕ)
    (reads mid reads' : ℕ) (out out' err err' : Printer)
    (files_are : now ≡ files) (reads_are : mid ≡ reads) (script_is : script ≡ held)
    (holds : Holds files file held) (within : length held ≤ LARGEST_SCRIPT) where
  pub whole : Runs now script out.taken out'.taken → err' ≡ err
      → EndsScript files file reads reads' out out' err err' 0
  whole r e =
      Whole held holds within
      (subst (λ (f : Option (List ℕ → Option (List ℕ))). Runs f held out.taken out'.taken) files_are
      (subst (λ (s : List ℕ). Runs now s out.taken out'.taken) script_is r)) e refl

  pub broken : (stop : DeskStop) (status : ℕ) → IsStop now script mid reads' out out' stop
      → PrintsLine err err' (desk_stop_line stop) → status ≡ desk_stop_status stop
      → EndsScript files file reads reads' out out' err err' status
  broken stop status b t s =
      Broken held stop holds within
      (subst (λ (f : Option (List ℕ → Option (List ℕ))). IsStop f held reads reads' out out' stop)
      files_are
      (subst (λ (n : ℕ). IsStop now held n reads' out out' stop) reads_are
      (subst (λ (x : List ℕ). IsStop now x mid reads' out out' stop) script_is b))) t s
