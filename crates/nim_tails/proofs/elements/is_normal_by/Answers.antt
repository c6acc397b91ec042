use Rattle.nim_tails.proofs.Tested.{nim_fault, zero_fault, normal_by}
use Rattle.nim_tails.proofs.elements.is_normal_by.Goals as goal

pub returns-in-Some : goal.returns-in-Some
returns-in-Some c =
    nim_fault c.args.certified.now c.cert.ensures.accepted c.args.one c.requires.regular
    c.args.values.now c.args.sums.now c.requires.values c.requires.sums c.in-Some.heap
    c.in-Some.ensures

pub returns-in-Some-first_zero : goal.returns-in-Some-first_zero
returns-in-Some-first_zero c =
    zero_fault c.args.certified.now c.cert.ensures.accepted c.args.one c.requires.regular
    c.args.values.now c.args.sums.now c.requires.values c.requires.sums c.in-Some-first_zero.x
    c.in-Some-first_zero.ensures

pub returns-in-None : goal.returns-in-None
returns-in-None c =
    normal_by c.args.certified.now c.cert.ensures.accepted c.args.one c.requires.regular
    c.args.values.now c.args.sums.now c.requires.values c.requires.sums c.requires.partial
    c.in_default.ensures c.in-None.ensures
