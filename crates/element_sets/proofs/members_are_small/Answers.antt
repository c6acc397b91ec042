use Rattle.std.proofs.Common.{sym, subst, arith}
use Rattle.std.specs.Prelude.{IsTrue}
use Rattle.std.specs.FinSet as fin
use Rattle.element_sets.proofs.HitLaws.{small_members}
use Rattle.element_sets.proofs.members_are_small.Goals as goal

pub returns : goal.returns
returns g c = λ x member.
    let count = c.members.invariant.length_is in
    let low =
    small_members c.members.inside.lanes x
    (subst (λ s. IsTrue (fin.contains s x)) (sym c.members.view_is) member) in
    omega arith
