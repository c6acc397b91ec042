-- What is said of a catalogue file, what it holds then, and why a task stops, for each task. This
-- project's own.
use Rattle.std.specs.Prelude.{◌≡◌, ℕ, Bool, true, false, List, Option, Some, None}
use Rattle.streams.specs.Files.{Replaces}
use Rattle.requests.specs.Requests.{CatalogueRequest}
use Rattle.requests.specs.Requests.CatalogueRequest.{Print, Table, New, Add, NewWith, Get, Salvage, Migrate}
use Rattle.catalogue_command.specs.Answers.{Adds, Creates, Gets, Lists, Migrates, Salvages}
use Rattle.catalogue_command.specs.Stops.{Failed, StopsAdd, StopsCreate, StopsGet, StopsList, StopsSalvage}
use Rattle.catalogue_command.specs.Tables.{Tables}
use Rattle.command_results.specs.declared.stop.Stop.{Stop}

-- what is said of a catalogue file, and what it holds then, by the files before and after
abbrev pub KeepsCatalogue : ℕ → Option (List ℕ → Option (List ℕ))
    → Option (List ℕ → Option (List ℕ)) → List ℕ → CatalogueRequest → List ℕ → Bool → Type 0
KeepsCatalogue limit before after file Print text succeeds = Lists limit before file succeeds text
KeepsCatalogue limit before after file (Table json) text succeeds =
    Tables json limit before file succeeds text
KeepsCatalogue limit before after file New text succeeds = Creates before after file succeeds text
KeepsCatalogue limit before after file (Add certificate) text succeeds =
    Adds false limit before after file certificate succeeds text
KeepsCatalogue limit before after file (NewWith certificate) text succeeds =
    Adds true limit before after file certificate succeeds text
KeepsCatalogue limit before after file (Get code heaps) text succeeds =
    Gets limit before file code heaps succeeds text
KeepsCatalogue limit before after file Salvage text succeeds =
    Salvages limit before after file succeeds text
KeepsCatalogue limit before after file Migrate text succeeds =
    Migrates limit before after file succeeds text

-- the file, where what writes it ends well
abbrev pub file_if : List ℕ → Bool → Option (List ℕ)
file_if file true = Some file
file_if file false = None

-- the catalogue file, where the task writes it
abbrev pub catalogue_written : List ℕ → CatalogueRequest → Bool → Option (List ℕ)
catalogue_written file Print succeeds = None
catalogue_written file (Table json) succeeds = None
catalogue_written file New succeeds = file_if file succeeds
catalogue_written file (Add certificate) succeeds = file_if file succeeds
catalogue_written file (NewWith certificate) succeeds = file_if file succeeds
catalogue_written file (Get code heaps) succeeds = None
catalogue_written file Salvage succeeds = file_if file succeeds
catalogue_written file Migrate succeeds = file_if file succeeds

-- every file is as it was, or every file but one, which holds a new text
abbrev pub Leaves : Option (List ℕ) → Option (List ℕ → Option (List ℕ))
    → Option (List ℕ → Option (List ℕ)) → Type 0
Leaves None before after = after ≡ before
Leaves (Some file) before after = (bytes : List ℕ) × Replaces before after file bytes

-- why a task upon a catalogue file stops
abbrev pub StopsTask : List ℕ → CatalogueRequest → Failed → Failed → Stop → Type 0
StopsTask file Print before after stop = StopsList file before after stop
StopsTask file (Table json) before after stop = StopsList file before after stop
StopsTask file New before after stop = StopsCreate before after stop
StopsTask file (Add certificate) before after stop =
    StopsAdd false file certificate before after stop
StopsTask file (NewWith certificate) before after stop =
    StopsAdd true file certificate before after stop
StopsTask file (Get code heaps) before after stop = StopsGet file code before after stop
StopsTask file Salvage before after stop = StopsSalvage file before after stop
StopsTask file Migrate before after stop = StopsSalvage file before after stop
