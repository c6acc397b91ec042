use Rattle.std.proofs.Common.{arith}
use Rattle.check_machine.proofs.UnitLaws.{bound_some}
use Rattle.checker.proofs.elements.Elements.new.Goals as goal

pub invariant_of-result : goal.invariant_of-result
invariant_of-result g c =
    let s = c.args.certificate in
    let order = c.is_lawful.ensures.in_ranges.order in
    let some = bound_some s c.is_lawful.ensures.in_ranges in
    let long = c.requires.pairs.exact.length_is in (
      record {
        canonical = c.requires.canonical;
        exact = c.requires.pairs;
        sets = c.in_ok-contexts.ensures;
        place = omega arith;
        value = (let two = order.0 in omega arith);
        heaps = λ n h a b. absurd (omega arith);
        heap = λ h l. absurd (omega arith);
      },
      omega arith,
      c.requires.fits,
      c.requires.few,
    )
