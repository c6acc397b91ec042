use Rattle.std.proofs.Common.{arith, length, ap, subst, sym}
use Rattle.answers.specs.Spelled.{GoDown}
use Rattle.check_machine.proofs.SpellLaws.{sizes_rise}
use Rattle.check_machine.specs.Turns.{keys_from}
use Rattle.check_machine.proofs.SortLaws.{rising_with}
use Rattle.checker.proofs.elements.position_with.Goals as goal

pub position_of-requires-clause-down : goal.position_of-requires-clause-down
position_of-requires-clause-down g c =
    subst GoDown (sym c.words.ensures.value)
    (c.spelled_sizes_are_positions.ensures.down c.args.certificate.now c.words.ensures.lawful.in_ranges
    c.requires.canonical)

pub position_of-requires-clause-element_in : goal.position_of-requires-clause-element_in
position_of-requires-clause-element_in g c =
    let e = ap length c.words.ensures.value in
    let n = c.words.ensures.lawful.in_ranges.words.0 in
    let b = c.requires.element in
    omega arith

pub returns : goal.returns
returns g c =
    let s = c.args.certificate.now in
    let rises =
    sizes_rise s c.words.ensures.lawful c.requires.canonical c.args.y c.in_ok-position.position
    c.requires.element
    (c.in_ok-position.ensures.spelled s (sym c.words.ensures.value)) in
    rising_with c.args.heap c.in_ok-position.position c.push.new.self (keys_from s s.order c.args.y)
    c.in_ok-push.ensures.ok c.heaps.ensures.rising rises
