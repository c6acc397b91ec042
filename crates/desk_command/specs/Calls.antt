-- The calls that a script's steps are. This project's own.
use Rattle.std.specs.Prelude.{◌≡◌, ◌+◌, ⊤, ℕ, List, [], ◌∷◌, Option}
use Rattle.streams.specs.Files.{BeginsWith}
use Rattle.desk.specs.Machine.{Call, Event}
use Rattle.desk.specs.Machine.Event.{Open as Opening, Work as Working, Drop as Dropping, Ask as Asking, Play as Playing}
use Rattle.desk.specs.Steps.{Step}
use Rattle.desk.specs.Steps.Step.{Open, Work, Drop, Ask, Play}
use Rattle.verdict_texts.specs.declared.stream.TheConstants.{MOST_BYTES}

abbrev pub call : ℕ → Event → Call
call client event = record { client = client; event = event }

-- The call that a step is: of its client, and to open a job on what the file holds, or on as many of
-- its bytes as decide.
abbrev pub IsCall : Option (List ℕ → Option (List ℕ)) → Step → Call → Type 0
IsCall files (Open client file limit) asked = (bytes : List ℕ)
    × BeginsWith files file (MOST_BYTES + 1) bytes
    × (asked ≡ call client (Opening bytes limit))
IsCall files (Work client job units) asked = asked ≡ call client (Working job units)
IsCall files (Drop client job) asked = asked ≡ call client (Dropping job)
IsCall files (Ask client job position) asked = asked ≡ call client (Asking job position)
IsCall files (Play client job position) asked = asked ≡ call client (Playing job position)

-- the calls that the steps are, one for each
abbrev pub AreCalls : Option (List ℕ → Option (List ℕ)) → List Step → List Call → Type 0
AreCalls files [] [] = ⊤
AreCalls files (step ∷ steps) (asked ∷ calls) = IsCall files step asked × AreCalls files steps calls
AreCalls files [] (asked ∷ calls) = ⊥
AreCalls files (step ∷ steps) [] = ⊥
