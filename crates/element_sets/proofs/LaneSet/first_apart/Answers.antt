use Rattle.std.proofs.Common.{◌∙◌, sym, arith}
use Rattle.element_sets.proofs.ApartLaws.{alike_to, alike_all, apart_at}
use Rattle.element_sets.proofs.LaneSet.first_apart.Goals as goal

pub returns-then-differing-ne0-clause-alike : goal.returns-then-differing-ne0-clause-alike
returns-then-differing-ne0-clause-alike g c = λ x b.
    rw (← c.self.view_is, ← c.other.view_is)
    (alike_to c.self.inside.lanes c.other.inside.lanes c.loop-i.i c.loop-i.invariant
    c.self.invariant.fits c.other.invariant.fits (omega arith) x
    (let m = c.min.ensures in omega arith))

pub returns-then-differing-ne0-clause-apart : goal.returns-then-differing-ne0-clause-apart
returns-then-differing-ne0-clause-apart g c = λ b.
    rw (← c.self.view_is, ← c.other.view_is)
    (apart_at c.self.inside.lanes c.other.inside.lanes c.loop-i.i c.loop-i.invariant
    c.self.invariant.fits c.other.invariant.fits (omega arith) c.min.result
    (let m = c.min.ensures in omega arith))

pub returns-clause-alike : goal.returns-clause-alike
returns-clause-alike g c = λ x b.
    let count = c.self.told in
    let e = c.loop-i.auto.i-end in
    rw (← c.self.view_is, ← c.other.view_is)
    (alike_all c.self.inside.lanes c.other.inside.lanes c.loop-i.i c.args.bound x
    (c.self.told ∙ sym c.other.told) c.loop-i.invariant b (λ more. omega (arith, more)))
