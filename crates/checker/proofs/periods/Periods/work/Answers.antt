use Rattle.std.proofs.Common.{rules, arith, sym, ap, inl, inr, refl, ◌+◌, ◌-◌, ◌<◌, ◌≤◌, ◌≡◌, true}
use Rattle.misere_theory.specs.Certificates.{phi_at}
use Rattle.check_machine.proofs.FaultLaws.{none_below_apart}
use Rattle.check_machine.proofs.UnitLaws.{some_pairs}
use Rattle.check_machine.proofs.PeriodLaws.{again_turn, shift_turn, periods_end}
use Rattle.check_machine.specs.Turns.Phase.{Periods, Separating}
use Rattle.check_machine.proofs.TurnLaws.{runs-none}
use Rattle.checker.proofs.ComeLemmas.{runs_turn, comes_last}
use Rattle.checker.proofs.LoopTurns.{periods_shifted, periods_served, periods_counted, periods_early, periods_over}
use Rattle.checker.proofs.periods.Periods.work.Goals as goal

pub shifts-init : goal.shifts-init
shifts-init g c =
    record {
      start = c.start-start.ensures.value;
      period = c.period-period.ensures.value;
      lawful = c.start-start.ensures.lawful;
      so_far = c.self.invariant;
      runs = λ bytes limit. runs-none bytes limit _ _ _ (ap Periods c.self.view_is);
    }

pub returns-then-count-period : goal.returns-then-count-period
returns-then-count-period g c =
    let i = c.shifts.invariant in
    λ bytes limit. comes_last bytes limit _ _ _ _ _ _ (i.runs bytes limit) (omega arith) refl
    (periods_served limit _ _ _ _ (search rules) (rw i.start at c.comes_again.ensures.same)
    c.if-not-comes_again.false (search rules)) (inl refl)

pub returns-then-comes_again : goal.returns-then-comes_again
returns-then-comes_again g c =
    let i = c.shifts.invariant in
    let w = i.so_far.within in
    λ bytes limit. comes_last bytes limit _ _ _ _ _ _ (i.runs bytes limit) (omega arith) refl
    (periods_early limit _ _ _ _ (omega arith)
    (rw (i.start, i.period) at c.comes_again-2.ensures.same) c.if-comes_again.true) (inl refl)

pub returns-in-Ok : goal.returns-in-Ok
returns-in-Ok g c =
    let i = c.shifts.invariant in
    let w = i.so_far.within in
    λ bytes limit. comes_last bytes limit _ _ _ _ _ _ (i.runs bytes limit) (omega arith) refl
    (periods_over limit _ _ _ _ (omega arith)
    (rw (i.start, i.period) at c.comes_again-2.ensures.same) c.if-comes_again.false
    (some_pairs _ i.lawful.in_ranges)) (inl (ap Separating (sym c.in-Ok.ensures.value)))

-- a growth was refused
pub returns-in-Err : goal.returns-in-Err
returns-in-Err g c =
    let i = c.shifts.invariant in
    let w = i.so_far.within in
    λ bytes limit. comes_last bytes limit _ _ _ _ _ _ (i.runs bytes limit) (omega arith) refl
    (periods_over limit _ _ _ _ (omega arith)
    (rw (i.start, i.period) at c.comes_again-2.ensures.same) c.if-comes_again.false
    (some_pairs _ i.lawful.in_ranges)) (inr refl)

pub shifts-preserved-then-not-comes_again : goal.shifts-preserved-then-not-comes_again
shifts-preserved-then-not-comes_again g c =
    let i = c.shifts.invariant in
    let not =
    λ (e : phi_at c.self.inside.certificate (c.shifts.shift + (c.self.inside.certificate.start + c.shifts.count))
    ≡ phi_at c.self.inside.certificate (c.self.inside.certificate.start + c.shifts.count)).
    let t : c.comes_again.result ≡ true =
    c.comes_again.ensures.again.1
    (rw i.start (
      (let o = i.lawful.in_ranges.start in omega arith),
      (let o = i.so_far.from_one in omega arith),
      e,
    )) in
    let b : ⊥ = cc in b in
    record {
      start = i.start;
      period = i.period;
      lawful = i.lawful;
      so_far = shift_turn _ _ _ i.so_far not (search rules);
      runs = λ bytes limit. runs_turn bytes limit _ _ _ _ _ (i.runs bytes limit) (omega arith) refl
          (periods_shifted limit _ _ _ _ (search rules) (rw i.start at c.comes_again.ensures.same)
          c.if-not-comes_again.true);
    }

pub shifts-preserved : goal.shifts-preserved
shifts-preserved g c =
    let i = c.shifts.invariant in
    let e = rw i.start at (c.comes_again.ensures.again.0 c.if-not-comes_again.false).2 in
    let s = i.so_far.short in
    let l : c.shifts.count + 1 < c.self.inside.certificate.period = omega arith in
    record {
      start = i.start;
      period = i.period;
      lawful = i.lawful;
      so_far = again_turn _ _ _ i.so_far e l;
      runs = λ bytes limit. runs_turn bytes limit _ _ _ _ _ (i.runs bytes limit) (omega arith) refl
          (periods_counted limit _ _ _ _ (search rules) (rw i.start at c.comes_again.ensures.same)
          c.if-not-comes_again.false l);
    }

pub new-requires : goal.new-requires
new-requires g c =
    let i = c.shifts.invariant in
    let w = i.so_far.within in
    let whole : c.self.inside.certificate.period ≤ c.shifts.shift = omega arith in
    let not =
    λ (e : (1 ≤ c.self.inside.certificate.period) × (1 < c.self.inside.certificate.start)
    × (phi_at c.self.inside.certificate (c.self.inside.certificate.period + (c.self.inside.certificate.start - 1))
    ≡ phi_at c.self.inside.certificate (c.self.inside.certificate.start - 1))).
    let t : c.comes_again-2.result ≡ true =
    c.comes_again-2.ensures.again.1
    (rw (i.start, i.period) ((let o = e.1 in omega arith), e.0, e.2))
    in
    let b : ⊥ = cc in b in
    none_below_apart c.self.inside.certificate i.so_far.free
    (periods_end c.self.inside.certificate _ _ i.so_far whole not)
