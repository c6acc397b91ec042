-- What is said for each request: the text that is printed, whether it ends well, and the line that is
-- told beside it. This project's own.
use Rattle.std.specs.Prelude.{◌≡◌, ℕ, Bool, List, Option, None}
use Rattle.catalogue_command.specs.Tasks.{KeepsCatalogue, catalogue_written}
use Rattle.solve_command.specs.Certifies.{Certifies}
use Rattle.given_quotients.specs.Checks.{AreGiven, Checks}
use Rattle.command_results.specs.Lines.{AreLinesOf}
use Rattle.description_commands.specs.Compared.{Compares, left_behind}
use Rattle.description_commands.specs.Described.{Describes, form_of}
use Rattle.verdict_commands.specs.Explained.{ExplainsGiven}
use Rattle.verdict_commands.specs.Checks.{ChecksInfinite, PlaysInfinite, PlaysInfiniteLines}
use Rattle.verdict_commands.specs.Shown.{ShowsInfinite}
use Rattle.position_commands.specs.Many.{AreFileOf, PlaysLines}
use Rattle.position_commands.specs.Said.{Asks, AsksOfTwo}
use Rattle.position_commands.specs.declared.asking.Question.TheVariants as question
use Rattle.description_commands.specs.Presented.{Presents}
use Rattle.requests.specs.Requests.{Request}
use Rattle.requests.specs.Requests.Request.{Check, Solve, SolveMany, SolveLines, Series, Show, Tail, Describe, Play, PlayLines, Present, Catalogue, Desk}
use Rattle.requests.specs.Requests.Request.{Explain, Compare, Certify, SolveInfinite, Infinite, ShowInfinite, PlayInfinite, PlayInfiniteLines}
use Rattle.requests.specs.Requests.Request.{Verify, Wins, Value, Apart}
use Rattle.solve_command.specs.Series.{IsSeries}
use Rattle.description_commands.specs.Shown.{Shows}
use Rattle.verdict_commands.specs.Lines.{Tails}
use Rattle.solve_command.specs.Many.{AnswersCodes, SolvesLines}
use Rattle.solve_command.specs.Solved.{Solves}
use Rattle.solve_command.specs.Asked.{IsFound}
use Rattle.verdict_commands.specs.Verifies.{Verifies}

-- What is said for each request, by what is left of standard input and by the files. What files
-- hold then is said here of a catalogue alone; the other requests leave every file as it is. A
-- script says its lines one by one, and has an end of its own; a description comes below.
abbrev pub Says : Option (List ℕ) → Option (List ℕ → Option (List ℕ))
    → Option (List ℕ → Option (List ℕ)) → Request → List ℕ → Bool → Type 0
Says input before after (Check file limit) text succeeds =
    Checks (AreGiven input before file) limit text succeeds
Says input before after (Verify file limit) text succeeds =
    Verifies (AreGiven input before file) limit text succeeds
Says input before after (Explain file) text succeeds =
    ExplainsGiven (AreGiven input before file) text succeeds
Says input before after (Solve code bounds) text succeeds = Solves code bounds text succeeds
Says input before after (SolveMany codes bounds) text succeeds =
    AnswersCodes bounds codes text succeeds
Says input before after (SolveLines bounds) text succeeds =
    SolvesLines (AreLinesOf input) bounds text succeeds
Says input before after (SolveInfinite code heaps presented) text succeeds =
    IsFound code heaps presented text succeeds
Says input before after (Series code bounds) text succeeds = IsSeries code bounds text succeeds
Says input before after (Show file limit) text succeeds =
    Shows (AreGiven input before file) limit text succeeds
Says input before after (Tail file limit) text succeeds =
    Tails (AreGiven input before file) limit text succeeds
Says input before after (Describe file output basis limit) text succeeds = ⊥
Says input before after (Play file position limit) text succeeds =
    Asks question.Play (AreGiven input before file) limit position text succeeds
Says input before after (PlayLines file limit) text succeeds =
    PlaysLines (AreFileOf before file) limit (AreLinesOf input) text succeeds
Says input before after (Wins file position limit) text succeeds =
    Asks question.Wins (AreGiven input before file) limit position text succeeds
Says input before after (Value file position limit) text succeeds =
    Asks question.Value (AreGiven input before file) limit position text succeeds
Says input before after (Apart file first second limit) text succeeds =
    AsksOfTwo (AreGiven input before file) limit first second text succeeds
Says input before after (Compare first second limit) text succeeds =
    Compares (AreGiven input before first) (AreGiven (left_behind first input) before second) limit
    text succeeds
Says input before after (Certify file limit) text succeeds =
    Certifies (AreGiven input before file) limit text succeeds
Says input before after (Present presentation) text succeeds = Presents presentation text succeeds
Says input before after (Catalogue file task limit) text succeeds =
    KeepsCatalogue limit before after file task text succeeds
Says input before after (Desk script) text succeeds = ⊥
Says input before after (Infinite file) text succeeds =
    ChecksInfinite (AreGiven input before file) text succeeds
Says input before after (ShowInfinite file layout) text succeeds =
    ShowsInfinite (AreGiven input before file) layout text succeeds
Says input before after (PlayInfinite file position) text succeeds =
    PlaysInfinite (AreGiven input before file) position text succeeds
Says input before after (PlayInfiniteLines file) text succeeds =
    PlaysInfiniteLines (AreFileOf before file) (AreLinesOf input) text succeeds

-- the same, with the line that is told beside it: a description alone may have one
abbrev pub RespondsWith : Option (List ℕ) → Option (List ℕ → Option (List ℕ))
    → Option (List ℕ → Option (List ℕ)) → Request → List ℕ → Bool → Option (List ℕ) → Type 0
RespondsWith input before after (Describe file output basis limit) text succeeds told =
    Describes (AreGiven input before file) limit (form_of basis) output text succeeds told
RespondsWith input before after request text succeeds told =
    Says input before after request text succeeds × (told ≡ None)

-- the one file that a request writes
abbrev pub file_written : Request → Bool → Option (List ℕ)
file_written (Catalogue file task limit) succeeds = catalogue_written file task succeeds
file_written _ succeeds = None
