use Rattle.std.proofs.Common.{refl}
use Rattle.desk.proofs.Filled.{empty_desk, empty_state}
use Rattle.desk.proofs.desk.Desk.new.Goals as goal

pub invariant_of-result : goal.invariant_of-result
invariant_of-result g c =
    (empty_desk c.nobody.result c.new.result.items c.nobody.ensures c.new.ensures.items, refl)

pub returns : goal.returns
returns g c = empty_state c.nobody.result c.new.result.items c.nobody.ensures
