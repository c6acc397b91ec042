use Rattle.std.proofs.Common.{◌≤◌, length}
use Rattle.serde_json.specs.Data.{Members, no_members}
use Rattle.catalogue.specs.Reading.{ReadsMembers}
use Rattle.catalogue.proofs.ReadLemmas.{Found}
use Rattle.catalogue.proofs.members.take_members.Given as goal

-- what was found so far; whatever the members that are left are put to it
abbrev pub invariant-loop-name : goal.invariant-loop-name
invariant-loop-name g l =
    (ms : Members) × g.F.Found.are l.found ms
    × ((o : Found) → ReadsMembers l.depth ms l.reader o
    → ReadsMembers l.depth no_members l.initial.reader o)
    × (length l.reader ≤ length l.initial.reader)

abbrev pub decreases-loop-name : goal.decreases-loop-name
decreases-loop-name g l = length l.reader
