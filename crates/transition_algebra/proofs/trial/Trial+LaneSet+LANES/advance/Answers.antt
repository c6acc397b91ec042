use Rattle.std.proofs.Common.{◌<◌, ◌≤◌, refl, ap, arith}
use Rattle.transition_algebra.specs.Heaps.{bound_of}
use Rattle.heap_options.specs.Walks.{stages_left}
use Rattle.transition_algebra.proofs.Counted.{bound_small}
use Rattle.transition_algebra.proofs.Cost.{two_digits}
use Rattle.transition_algebra.proofs.Running.{room, all_spent}
use Rattle.transition_algebra.proofs.Finished.{measure_falls, stages_few, on_err}
use Rattle.transition_algebra.proofs.trial.Trial+LaneSet+LANES.advance.Goals as goal

pub loop-left-smaller : goal.loop-left-smaller
loop-left-smaller g c =
    let code = c.args.scene.now.code.now in
    let r = c.in_ok-left.ensures.ok in
    let two = two_digits code c.is_code.ensures.code in
    let bound = bound_small c.args.scene.now.phi.now c.is_pretending.ensures code two.1 in
    let was = c.loop-left.invariant.goes_on.trial.bound_is in
    let same = c.loop-left.invariant.bound in
    let most = c.requires.last in
    let going = c.if-self-last.true in
    let next = r.heap in
    measure_falls c.loop-left.left c.in_ok-left.field-0 _
    (stages_left code c.loop-left.self.walk) (stages_left code c.run.new.self.walk)
    r.at_most (stages_few code c.loop-left.self.walk two.1 (omega arith))
    (stages_few code c.run.new.self.walk two.1 (omega arith)) r.falls refl

pub loop-left-preserved : goal.loop-left-preserved
loop-left-preserved g c =
    let i = c.loop-left.invariant in
    let r = c.in_ok-left.ensures.ok in
    let few = r.at_most in
    let spent = r.spent_is in
    let one = r.heap in
    let here = c.if-self-last.true in
    let was = i.goes_on.trial.bound_is in
    let now = r.trial.bound_is in
    let same = i.bound in
    let left = i.few in
    let sum = i.units in
    let most = c.requires.last in record {
      goes_on = record { trial = r.trial; kept = c.run.ensures.kept };
      bound = omega arith;
      units = omega arith;
      few = omega arith;
      going = λ less. λ _. let behind =
          room c.args.scene.now.code.now c.args.scene.now.table.now c.args.scene.now.phi.now
          c.run.new.self c.run.new.pairs.items r.trial (omega arith) in omega arith;
      still = λ late. absurd (let same = ap (λ t. t.walk.heap) (i.still late) in omega arith);
    }

pub returns-in_err-left-clause-err : goal.returns-in_err-left-clause-err
returns-in_err-left-clause-err g c =
    let i = c.loop-left.invariant in
    let spent = ap (λ t. t.spent) c.in_err-left.ensures.err in
    let heap = ap (λ t. t.walk.heap) c.in_err-left.ensures.err in
    let sum = i.units in
    let few = i.few in
    let some = c.loop-left-test.true in
    let here = c.if-self-last.true in
    let most = c.requires.last in
    let same = i.bound in
    let bound = i.goes_on.trial.bound_is in
    let going : c.loop-left.self.walk.heap ≤ bound_of c.args.scene.now.code.now c.args.scene.now.phi.now =
    omega arith in
    let behind =
    room c.args.scene.now.code.now c.args.scene.now.table.now c.args.scene.now.phi.now
    c.loop-left.self c.loop-left.pairs.items i.goes_on.trial going in
    on_err c.from_residual.result (omega arith, omega arith, omega arith)

pub returns-else-self-last-clause-all : goal.returns-else-self-last-clause-all
returns-else-self-last-clause-all g c = λ whole.
    let i = c.loop-left.invariant in
    let same = i.bound in
    let bound = i.goes_on.trial.bound_is in
    let past = c.if-self-last.false in
    let sum = i.units in
    let over : bound_of c.args.scene.now.code.now c.args.scene.now.phi.now
    < c.loop-left.self.walk.heap = omega arith in
    let all =
    all_spent c.args.scene.now.code.now c.args.scene.now.table.now c.args.scene.now.phi.now
    c.loop-left.self c.loop-left.pairs.items i.goes_on.trial over in
    omega arith
