use Rattle.std.proofs.Common.{◌<◌, ◌≤◌, ◌*◌, sym, ap, subst, arith}
use Rattle.transition_algebra.specs.Work.{HeapWork, heap_cost}
use Rattle.check_machine.specs.Closings.{IsCanonicalCertificate}
use Rattle.check_machine.specs.Turns.Phase.{Heaps}
use Rattle.check_machine.proofs.TurnLaws.{runs-to}
use Rattle.checker.specs.Parts.{parts_of}
use Rattle.checker.proofs.HeapStages.{with_work, heaps_going}
use Rattle.checker.proofs.heaps.Heaps.go_on.Goals as goal

pub returns : goal.returns
returns g c = λ bytes limit.
    let s = c.self.inside in
    let J = c.go_on.new.self in
    let r = c.go_on.ensures.spent in
    let a = c.spent.ensures in
    let b = c.spent-before.ensures in
    let w : J.spent < heap_cost s.job.code s.job.phi = c.go_on.ensures.going c.self.invariant.1 in
    runs-to bytes limit _ _ _ _ _
    (heaps_going s.lines s.job _ c.self.view_is c.self.invariant.1 bytes limit c.args.left.now _
    J.spent r.0 (omega arith) (omega arith) w)
    (ap (λ j. Heaps (record { certificate = with_work s.lines j; spent = J.spent }))
    (sym c.go_on.ensures.given))

pub invariant_of-self : goal.invariant_of-self
invariant_of-self g c =
    let s = c.self.inside in
    let i = c.self.invariant in
    let of : HeapWork → Type 0 =
    λ j. IsCanonicalCertificate (parts_of s.lines j.code j.table j.phi)
    × (j.table.order ≤ 64 * g.row.LANES) in
    let same = subst of (sym c.go_on.ensures.given) (i.0, i.2) in
    let going = subst (λ (j : HeapWork). c.go_on.new.self.spent < heap_cost j.code j.phi)
    (sym c.go_on.ensures.given) (c.go_on.ensures.going i.1) in
    (same.0, going, same.1, i.3)
