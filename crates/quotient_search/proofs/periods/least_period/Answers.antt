use Rattle.std.proofs.Common.{◌≤◌, ◌+◌, ◌*◌, length, arith}
use Rattle.quotient_search.specs.Periods.{IsPeriodic}
use Rattle.quotient_search.proofs.Least.{found, none, none_here}
use Rattle.quotient_search.proofs.periods.least_period.Goals as goal

pub returns-then-start-entries-clause-found : goal.returns-then-start-entries-clause-found
returns-then-start-entries-clause-found c =
    let f = c.repeats_from-start.ensures in
    let shown : c.repeats_from-start.result + 2 * c.loop-period.period ≤ length c.args.entries.now
    + 1 = omega arith in
    found c.args.entries.now c.loop-period.period c.repeats_from-start.result
    c.loop-period.auto.period f.starts.0 f.repeats f.earliest shown
    c.loop-period.invariant

pub returns-then-start-entries-clause-none : goal.returns-then-start-entries-clause-none
returns-then-start-entries-clause-none c =
    let f = c.repeats_from-start.ensures in
    let shown : c.repeats_from-start.result + 2 * c.loop-period.period ≤ length c.args.entries.now
    + 1 = omega arith in
    let is : IsPeriodic c.args.entries.now c.repeats_from-start.result c.loop-period.period =
    record {
      starts = f.starts.0;
      goes_on = c.loop-period.auto.period;
      shown_twice = shown;
      repeats = f.repeats;
    } in
    ((λ e. cc), (λ no. absurd (no _ _ is)))

pub loop-period-preserved : goal.loop-period-preserved
loop-period-preserved c =
    none_here c.args.entries.now c.loop-period.period c.repeats_from-start.result
    c.repeats_from-start.ensures.earliest (omega arith) c.loop-period.invariant

pub returns-clause-none : goal.returns-clause-none
returns-clause-none c =
    let no = none c.args.entries.now c.loop-period.period (omega arith) c.loop-period.invariant in
    ((λ e. no), (λ h. cc))
