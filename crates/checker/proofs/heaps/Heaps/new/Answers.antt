use Rattle.std.proofs.Common.{◌<◌, ◌≤◌, ◌*◌, sym, subst}
use Rattle.misere_theory.specs.Certificates.{Canonical}
use Rattle.transition_algebra.specs.Work.{HeapWork, heap_cost}
use Rattle.check_machine.specs.Closings.{IsCanonicalCertificate}
use Rattle.checker.specs.Parts.{parts_of}
use Rattle.checker.proofs.HeapTurns.{some_cost}
use Rattle.check_machine.proofs.UnitLaws.{bound_some}
use Rattle.checker.proofs.heaps.Heaps.new.Goals as goal

pub invariant_of-result : goal.invariant_of-result
invariant_of-result g c =
    let s = c.certificate.inside in
    let some = some_cost s.code s.phi (bound_some _ c.certificate.invariant.whole.writable.in_ranges) in
    subst (λ (j : HeapWork).
    IsCanonicalCertificate (parts_of s.lines j.code j.table j.phi)
    × (j.spent < heap_cost j.code j.phi) × (j.table.order ≤ 64 * g.row.LANES) × (g.row.LANES ≤ 64))
    (sym c.new.ensures) (
      record {
        certificate = c.certificate.invariant;
        canonical = subst Canonical (sym c.certificate.view_is)
            c.requires.canonical;
      },
      some,
      subst (λ d. d.order ≤ 64 * g.row.LANES) (sym c.certificate.view_is) c.requires.fits,
      c.requires.few,
    )
