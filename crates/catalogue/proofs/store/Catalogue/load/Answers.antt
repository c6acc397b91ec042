use Rattle.std.proofs.Common.{map, sym, subst}
use Rattle.catalogue.specs.Files.{written}
use Rattle.catalogue.specs.Loads.{Holds}
use Rattle.catalogue.proofs.store.Catalogue.load.Goals as goal

pub returns-in-Ok : goal.returns-in-Ok
returns-in-Ok c =
    c.catalogue_of.ensures c.args.bytes.now
    (subst (λ ts. Holds c.args.bytes.now (map written ts)) (sym c.deref.ensures.value)
    c.in-Ok.ensures.ok)
