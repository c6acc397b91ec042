use Rattle.check_machine.proofs.UnitLaws.{some_pairs}
use Rattle.check_machine.proofs.ApartLaws.{apart_start}
use Rattle.checker.proofs.separating.Separating.new.Goals as goal

pub invariant_of-result : goal.invariant_of-result
invariant_of-result g c = let r = c.is_lawful.ensures.in_ranges in
    (apart_start _ r c.requires, some_pairs _ r, c.in_ok-contexts.ensures)
