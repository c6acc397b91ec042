use Rattle.std.proofs.Common.{◌+◌, ◌*◌, ◌≤◌, length, arith}
use Rattle.quotient_search.proofs.Soonest.{same_found, found_here, passed_over, no_less_found, soonest, none_where_no_period}
use Rattle.quotient_search.proofs.evidence.soonest_period.Goals as goal
use Rattle.quotient_search.proofs.evidence.soonest_period.Goals.{then-start-heaps+then-start-period, else-start-heaps, else-start-heaps-via-then-start-heaps+else-start-period, else-start-heaps-via-else-start-heaps}

pub loop-period-preserved : goal.loop-period-preserved
loop-period-preserved c =
    let f = c.repeats_from-start.ensures in
    let es = c.args.heaps.now in
    let p = c.loop-period.period in
    let s = c.repeats_from-start.result in
    let one : 1 ≤ p = c.loop-period.auto.period in
    elim c.if-start-heaps.branch [
      | then-start-heaps+then-start-period w ↦
          let shown : s + 2 * p ≤ length es + 1 = omega arith in
          same_found es (p + 1) w.best-is w.least-is
          (found_here es p s c.loop-period.best c.loop-period.least one f.starts.0 f.repeats f.earliest
          shown (omega arith) c.loop-period.invariant)
      | else-start-heaps w ↦
          same_found es (p + 1) w.best-is w.least-is
          (elim w.else-start-heaps.branch [
            | else-start-heaps-via-then-start-heaps+else-start-period v ↦
                let shown : s + 2 * p ≤ length es + 1 = omega arith in
                no_less_found es p s c.loop-period.best c.loop-period.least one f.earliest shown
                (omega arith) c.loop-period.invariant
            | else-start-heaps-via-else-start-heaps v ↦
                passed_over es p s c.loop-period.best c.loop-period.least f.earliest (omega arith)
                c.loop-period.invariant
          ])
    ]

pub returns-clause-found : goal.returns-clause-found
returns-clause-found c =
    soonest c.args.heaps.now c.loop-period.period c.loop-period.best c.loop-period.least (omega arith)
    c.loop-period.invariant

pub returns-clause-none : goal.returns-clause-none
returns-clause-none c =
    none_where_no_period c.args.heaps.now c.loop-period.period c.loop-period.best c.loop-period.least
    (omega arith) c.loop-period.invariant
