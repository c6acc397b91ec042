use Rattle.std.proofs.Common.{◌+◌, ◌*◌, ◌≤◌, length}
use Rattle.json.specs.Json.{parse_map}
use Rattle.serde_json.specs.Data.{Items, Members, no_members}
use Rattle.catalogue.specs.Reading.{ReadsItems, ReadsMembers}
use Rattle.catalogue.proofs.ReadLemmas.{Those, Found}
use Rattle.catalogue.proofs.passing.+pass.Given as goal

abbrev pub decreases-pass_value : goal.decreases-pass_value
decreases-pass_value l = 3 * l.depth + 1

abbrev pub decreases-pass_from : goal.decreases-pass_from
decreases-pass_from l = 3 * l.depth

abbrev pub decreases-pass_items : goal.decreases-pass_items
decreases-pass_items l = 3 * l.depth + 2

abbrev pub decreases-pass_members : goal.decreases-pass_members
decreases-pass_members l = 3 * l.depth + 2

-- whatever the items that are left are becomes a part of all
abbrev pub invariant-pass_items-loop-reader : goal.invariant-pass_items-loop-reader
invariant-pass_items-loop-reader l =
    (f : Items → Items)
    × ((o : Those) → ReadsItems l.depth l.reader o
    → ReadsItems l.depth l.initial.reader (parse_map f o))
    × (length l.reader ≤ length l.initial.reader)

abbrev pub decreases-pass_items-loop-reader : goal.decreases-pass_items-loop-reader
decreases-pass_items-loop-reader l = length l.reader

abbrev pub invariant-pass_members-loop-reader : goal.invariant-pass_members-loop-reader
invariant-pass_members-loop-reader l =
    (found : Members) × ((o : Found) → ReadsMembers l.depth found l.reader o
    → ReadsMembers l.depth no_members l.initial.reader o)
    × (length l.reader ≤ length l.initial.reader)

abbrev pub decreases-pass_members-loop-reader : goal.decreases-pass_members-loop-reader
decreases-pass_members-loop-reader l = length l.reader
