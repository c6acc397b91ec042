-- Why each request may stop, and which devices it uses. This project's own.
use Rattle.std.specs.Prelude.{ℕ, ◌||◌, Bool, true, false, List, Option, Some, None, is_none, is_some}
use Rattle.catalogue_command.specs.Stops as catalogue
use Rattle.catalogue_command.specs.Tasks.{StopsTask}
use Rattle.solve_command.specs.Certifies.{IsTableCause}
use Rattle.given_quotients.specs.Checks as check
use Rattle.given_quotients.specs.Checks.{IsGivenCause}
use Rattle.description_commands.specs.Compared.{IsCompareCause}
use Rattle.command_results.specs.Lines.{AreLinesOf, IsLinesCause}
use Rattle.command_results.specs.Stops.{IsMemory}
use Rattle.command_results.specs.declared.stop.Stop.{Stop}
use Rattle.streams.specs.declared.folder.Folder as folder
use Rattle.position_commands.specs.Many.{IsPlayLinesCause}
use Rattle.position_commands.specs.Plays.{IsPlayCause}
use Rattle.position_commands.specs.Said.{IsApartCause}
use Rattle.requests.specs.declared.plans.Output.TheVariants.{Relations}
use Rattle.requests.specs.Requests.{Request}
use Rattle.requests.specs.Requests.Request.{Check, Solve, SolveMany, SolveLines, Series, Show, Tail, Describe, Play, PlayLines, Present, Catalogue, Desk}
use Rattle.requests.specs.Requests.Request.{Explain, Compare, Certify, SolveInfinite, Infinite, ShowInfinite, PlayInfinite, PlayInfiniteLines}
use Rattle.requests.specs.Requests.Request.{Verify, Wins, Value, Apart}
use Rattle.solve_command.specs.Solved.{IsSolveCause}
use Rattle.streams.specs.declared.source.Source as source
use Rattle.verdict_texts.specs.Streams.{AreKnownAs}

-- How often each device has failed that a command reads or changes.
pub record Failed : Type 0 where
  pub input : ℕ
  pub reads : ℕ
  pub writes : ℕ

-- how often this folder and this standard input have failed, by the ghost members of their traits
abbrev pub failed : {F S : Type 0} → folder.Ghosts F → source.Ghosts S → F → S → Failed
failed F S folder input = record {
  input = S.failures input;
  reads = F.failed_reads folder;
  writes = F.failed_writes folder;
}

-- those of which certificates are read
abbrev pub given : Failed → check.Failed
given f = check.failed f.input f.reads

-- Why each request may stop before anything is printed, by what was left of standard input, and by
-- the failures before and after. A script has an end of its own.
abbrev pub IsCause : Option (List ℕ) → Request → Failed → Failed → Stop → Type 0
IsCause input (Check file limit) before after stop =
    IsGivenCause file (given before) (given after) stop
IsCause input (Verify file limit) before after stop =
    IsGivenCause file (given before) (given after) stop
IsCause input (Explain file) before after stop =
    IsGivenCause file (given before) (given after) stop
IsCause input (Solve code bounds) before after stop = IsSolveCause code stop
IsCause input (SolveMany codes bounds) before after stop = IsMemory stop
IsCause input (SolveLines bounds) before after stop =
    IsLinesCause (AreLinesOf input) before.input after.input stop
IsCause input (SolveInfinite code heaps presented) before after stop = IsSolveCause code stop
IsCause input (Series code bounds) before after stop = IsSolveCause code stop
IsCause input (Show file limit) before after stop =
    IsGivenCause file (given before) (given after) stop
IsCause input (Tail file limit) before after stop =
    IsGivenCause file (given before) (given after) stop
IsCause input (Describe file output basis limit) before after stop =
    IsGivenCause file (given before) (given after) stop
IsCause input (Play file position limit) before after stop =
    IsPlayCause file position (given before) (given after) stop
IsCause input (PlayLines file limit) before after stop =
    IsPlayLinesCause file (AreLinesOf input) (given before) (given after) stop
IsCause input (Wins file position limit) before after stop =
    IsPlayCause file position (given before) (given after) stop
IsCause input (Value file position limit) before after stop =
    IsPlayCause file position (given before) (given after) stop
IsCause input (Apart file first second limit) before after stop =
    IsApartCause file first second (given before) (given after) stop
IsCause input (Compare first second limit) before after stop =
    IsCompareCause first second (given before) (given after) stop
IsCause input (Certify file limit) before after stop =
    IsTableCause (AreKnownAs input) file (given before) (given after) stop
IsCause input (Present text) before after stop = IsMemory stop
IsCause input (Catalogue file task limit) before after stop =
    StopsTask file task (catalogue.failed before.reads before.writes)
    (catalogue.failed after.reads after.writes) stop
IsCause input (Desk script) before after stop = ⊥
IsCause input (Infinite file) before after stop =
    IsGivenCause file (given before) (given after) stop
IsCause input (ShowInfinite file layout) before after stop =
    IsGivenCause file (given before) (given after) stop
IsCause input (PlayInfinite file position) before after stop =
    IsPlayCause file position (given before) (given after) stop
IsCause input (PlayInfiniteLines file) before after stop =
    IsPlayLinesCause file (AreLinesOf input) (given before) (given after) stop

-- the request reads standard input
abbrev pub reads_input : Option Request → Bool
reads_input (Some (Check file limit)) = is_none file
reads_input (Some (Verify file limit)) = is_none file
reads_input (Some (Explain file)) = is_none file
reads_input (Some (Show file limit)) = is_none file
reads_input (Some (Tail file limit)) = is_none file
reads_input (Some (Describe file output basis limit)) = is_none file
reads_input (Some (Play file position limit)) = is_none file
reads_input (Some (PlayLines file limit)) = true
reads_input (Some (Wins file position limit)) = is_none file
reads_input (Some (Value file position limit)) = is_none file
reads_input (Some (Apart file first second limit)) = is_none file
reads_input (Some (Compare first second limit)) = is_none first || is_none second
reads_input (Some (Certify file limit)) = is_none file
reads_input (Some (SolveLines bounds)) = true
reads_input (Some (Infinite file)) = is_none file
reads_input (Some (ShowInfinite file layout)) = is_none file
reads_input (Some (PlayInfinite file position)) = is_none file
reads_input (Some (PlayInfiniteLines file)) = true
reads_input _ = false

-- the request reads or writes files
abbrev pub takes_files : Option Request → Bool
takes_files (Some (Check file limit)) = is_some file
takes_files (Some (Verify file limit)) = is_some file
takes_files (Some (Explain file)) = is_some file
takes_files (Some (Show file limit)) = is_some file
takes_files (Some (Tail file limit)) = is_some file
takes_files (Some (Describe file output basis limit)) = is_some file
takes_files (Some (Play file position limit)) = is_some file
takes_files (Some (PlayLines file limit)) = true
takes_files (Some (Wins file position limit)) = is_some file
takes_files (Some (Value file position limit)) = is_some file
takes_files (Some (Apart file first second limit)) = is_some file
takes_files (Some (Compare first second limit)) = is_some first || is_some second
takes_files (Some (Certify file limit)) = is_some file
takes_files (Some (Catalogue file task limit)) = true
takes_files (Some (Desk script)) = true
takes_files (Some (Infinite file)) = is_some file
takes_files (Some (ShowInfinite file layout)) = is_some file
takes_files (Some (PlayInfinite file position)) = is_some file
takes_files (Some (PlayInfiniteLines file)) = true
takes_files _ = false

-- the request asks for a description, or for a quotient's relations
abbrev pub describes : Option Request → Bool
describes (Some (Describe file output basis limit)) = true
describes _ = false

-- the request may tell a line beside what it prints: it asks for a quotient's relations
abbrev pub notes : Option Request → Bool
notes (Some (Describe file Relations basis limit)) = true
notes _ = false

-- the request takes the steps of a script
abbrev pub runs_script : Option Request → Bool
runs_script (Some (Desk script)) = true
runs_script _ = false
