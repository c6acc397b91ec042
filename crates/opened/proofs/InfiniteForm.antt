-- The form of an `InfiniteHandle`, by which it has the walks of `Handles`.
use Rattle.std.proofs.Common.{refl}
use denote.RattleType.{RattleType}
use Rattle.opened.proofs.Handles.{Form}
use Rattle.opened.specs.contracts.infinite_handle.InfiniteHandle as handle
use Rattle.opened.specs.contracts.infinite.InfiniteQuotient as quotient

abbrev pub R : RattleType
R = quotient.the_row

abbrev pub form : Form R
form = record {
  name = handle.the_type.name;
  D = handle.the_type.D;
  parts = λ d. (d.at, (d.alloc, d.value));
  made = λ x. record { at = x.0; alloc = x.1.0; value = x.1.1 };
  parts_made = λ x. refl;
  coded = handle.the_type.coded;
  shr_at = handle.the_type.shr_at;
}
