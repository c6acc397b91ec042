-- How a run ends: what it has printed and told, and its status. This project's own.
use Rattle.std.specs.Prelude.{◌≡◌, ℕ, Bool, List, Some, None}
use Rattle.clap.specs.Words.{Text}
use Rattle.command_line.specs.Refusals.{AsksForHelp, IsFaultOf}
use Rattle.command_line.specs.Requests.{WordRequest, plan_of, word_of}
use Rattle.command_line.specs.Requests.WordRequest.{ExplainCode, ExplainPosition}
use Rattle.command_line.specs.Status.{status_of, text_of}
use Rattle.command_line.specs.declared.faults.UsageFault.{UsageFault}
use Rattle.streams.specs.Printers.{PrintsLine}
use Rattle.command_results.specs.Printed.{Printed, status_if}
use Rattle.command_results.specs.Stops.{stop_line}
use Rattle.command_results.specs.declared.stop.Stop.TheVariants.{Memory}
use Rattle.commands.specs.Obeys.{Obeys, Scene}
use Rattle.verdict_commands.specs.WordExplained.{ExplainsCode, ExplainsPosition}
use Rattle.requests.specs.Requests.{Request}

-- the status is that of the fault, which is told, and nothing is printed
abbrev pub IsTold : UsageFault → Scene → Scene → ℕ → Type 0
IsTold fault old new status = (status ≡ status_of fault) × (new.out ≡ old.out)
    × PrintsLine old.err new.err (text_of fault)

-- what is said of a word that is explained
abbrev pub ExplainsWord : WordRequest → List ℕ → Bool → Type 0
ExplainsWord (ExplainCode code) text succeeds = ExplainsCode code text succeeds
ExplainsWord (ExplainPosition position) text succeeds = ExplainsPosition position text succeeds

-- What a run did that ends with this status.
--   Asked: the words ask for something, and it obeyed.
--   Explained: the words ask to explain a word, and what is said of it was printed.
--   Helped: the words ask for help, which was printed.
--   Refused: the words are no request, for a mistake that is told, with status 2.
--   Wanting: memory was wanting before the words were read, or a word was explained, and no device
--   failed.
pub data Ends (words : List Text) (old new : Scene) (status : ℕ) : Type 0 where
  Asked : (request : Request) → plan_of words ≡ Some request → Obeys request old new status
      → Ends words old new status
  Explained : (word : WordRequest) → word_of words ≡ Some word → plan_of words ≡ None
      → (text : List ℕ) (succeeds : Bool) → ExplainsWord word text succeeds
      → new.files ≡ old.files
      → Printed old.out new.out old.err new.err text (status_if succeeds) status
      → Ends words old new status
  Helped : AsksForHelp words → plan_of words ≡ None → (text : List ℕ) → new.files ≡ old.files
      → Printed old.out new.out old.err new.err text 0 status → Ends words old new status
  Refused : (fault : UsageFault) → status_of fault ≡ 2 → IsFaultOf words fault
      → plan_of words ≡ None → new.files ≡ old.files
      → IsTold fault old new status → Ends words old new status
  Wanting : new.failed ≡ old.failed → new.files ≡ old.files → new.out ≡ old.out
      → PrintsLine old.err new.err (stop_line Memory)
      → status ≡ 3 → Ends words old new status
