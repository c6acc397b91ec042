use Rattle.std.proofs.Common.{◌≡◌, map, take}
use Rattle.serde_json.specs.View.{view}
use Rattle.catalogue.specs.Texts.{entry_data}
use Rattle.catalogue.proofs.store.Catalogue.value.Given as goal

abbrev pub invariant-loop-certified : goal.invariant-loop-certified
invariant-loop-certified l =
    map view l.entries.items ≡ map entry_data (take l.certified-index l.certified-items)
