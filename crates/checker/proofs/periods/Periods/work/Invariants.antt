use Rattle.std.proofs.Common.{◌≡◌, ℕ, List}
use Rattle.check_machine.specs.LawfulCertificates.{IsLawful}
use Rattle.check_machine.specs.SoFar.{PeriodsSoFar}
use Rattle.check_machine.specs.Turns.{Runs}
use Rattle.check_machine.specs.Turns.Phase.{Periods as AtPeriods}
use Rattle.checker.proofs.periods.Periods.work.Given as goal

abbrev pub invariant-shifts : goal.invariant-shifts
invariant-shifts g l = record {
  start : l.start ≡ l.certificate.start;
  period : l.period ≡ l.certificate.period;
  lawful : IsLawful l.certificate;
  so_far : PeriodsSoFar l.certificate l.shift l.count;
  runs : (bytes : List ℕ) (limit : ℕ)
      → Runs bytes limit (AtPeriods l.fn.self) l.initial.left l.left
      (AtPeriods (record { certificate = l.certificate; shift = l.shift; count = l.count }));
}

abbrev pub decreases-shifts : goal.decreases-shifts
decreases-shifts g l = l.left
