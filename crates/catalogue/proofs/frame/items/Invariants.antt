use Rattle.std.proofs.Common.{◌≤◌, length}
use Rattle.json.specs.Json.{parse_map}
use Rattle.serde_json.specs.Data.{Items}
use Rattle.catalogue.specs.Reading.{ReadsItems}
use Rattle.catalogue.proofs.FrameLemmas.{Before}
use Rattle.catalogue.proofs.ReadLemmas.{Those}
use Rattle.catalogue.proofs.frame.items.Given as goal

-- the items so far are entries; whatever the items that are left are stands behind them
abbrev pub invariant-loop-reader : goal.invariant-loop-reader
invariant-loop-reader l =
    (f : Items → Items) × Before f l.entries.items
    × ((o : Those) → ReadsItems l.depth l.reader o
    → ReadsItems l.depth l.initial.reader (parse_map f o))
    × (length l.reader ≤ length l.initial.reader)

abbrev pub decreases-loop-reader : goal.decreases-loop-reader
decreases-loop-reader l = length l.reader
