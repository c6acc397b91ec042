use Rattle.std.proofs.Common.{refl, arith}
use Rattle.catalogue.specs.Reading.{entry_names}
use Rattle.catalogue.proofs.NameLemmas.{none_found}
use Rattle.catalogue.proofs.fields.members.Goals as goal

pub take_members-requires : goal.take_members-requires
take_members-requires c k = (
  (refl, tt),
  (
    omega arith,
    record { names = none_found entry_names; certificate = refl; code = refl; heaps = refl },
  ),
)
