-- What a run did for a request, seen at its devices. This project's own.
use Rattle.std.specs.Prelude.{◌≡◌, ℕ, Bool, List, Option}
use Rattle.catalogue_command.specs.Tasks.{Leaves}
use Rattle.streams.specs.declared.folder.Folder as folder
use Rattle.streams.specs.Printers.{Printer, PrintsLine, printer}
use Rattle.streams.specs.declared.sink.Sink as sink
use Rattle.streams.specs.declared.source.Source as source
use Rattle.command_results.specs.Printed.{PrintedWith, status_if}
use Rattle.command_results.specs.Stops.{stop_line, stop_status}
use Rattle.command_results.specs.declared.stop.Stop.{Stop}
use Rattle.commands.specs.Causes.{Failed, IsCause, failed}
use Rattle.commands.specs.Responses.{RespondsWith, file_written}
use Rattle.desk_command.specs.Ends.{EndsScript}
use Rattle.requests.specs.Requests.{Request}
use Rattle.requests.specs.Requests.Request.{Desk}

-- What can be seen of a run's devices: what is left of standard input, the files, how often each
-- failed, what was printed and what was told; the bytes where they are known.
pub record Scene : Type 0 where
  pub input : Option (List ℕ)
  pub files : Option (List ℕ → Option (List ℕ))
  pub failed : Failed
  pub out : Printer
  pub err : Printer

-- what can be seen of this folder, standard input, standard output and standard error, by the ghost
-- members of their traits
abbrev pub scene : {F S W E : Type 0} → folder.Ghosts F → source.Ghosts S → sink.Ghosts W
    → sink.Ghosts E → F → S → W → E → Scene
scene F S W E folder input out err = record {
  input = S.left input;
  files = F.files folder;
  failed = failed F S folder input;
  out = printer (W.taken out) (W.failures out);
  err = printer (E.taken err) (E.failures err);
}

-- What a run did that was asked for this, and ended with this status: it said so, and no file has
-- changed but the one that the request writes where it ends well; or it stopped before anything was
-- printed, for a cause of this request, and every file is as it was; or it took the steps of a
-- script, to its end or not, and every file is as it was.
pub data Obeys (request : Request) (old new : Scene) (status : ℕ) : Type 0 where
  Done : (text : List ℕ) (succeeds : Bool) (note : Option (List ℕ))
      → RespondsWith old.input old.files new.files request text succeeds note
      → Leaves (file_written request succeeds) old.files new.files
      → PrintedWith old.out new.out old.err new.err text note (status_if succeeds) status
      → Obeys request old new status
  Stopped : (stop : Stop) → IsCause old.input request old.failed new.failed stop
      → new.files ≡ old.files
      → new.out ≡ old.out
      → PrintsLine old.err new.err (stop_line stop) → status ≡ stop_status stop
      → Obeys request old new status
  Stepped : (script : List ℕ) → request ≡ Desk script
      → EndsScript old.files script old.failed.reads new.failed.reads old.out new.out old.err
      new.err status
      → new.files ≡ old.files → Obeys request old new status
