use Rattle.std.proofs.Common.{Err, ap, arith, ◌+◌}
use Rattle.std.proofs.lemmas.List.{length-map}
use Rattle.desk.specs.Views.{step_of, steps_of}
use Rattle.desk.proofs.ReadLines.{all_read, first_other, is_nothing, none_read, not_empty, one_more_read, steps_more}
use Rattle.desk.proofs.script.read_script.Goals as goal

pub loop-rest-init : goal.loop-rest-init
loop-rest-init g c = rw c.new-steps.ensures.items (none_read c.args.script.now)

pub loop-rest-preserved : goal.loop-rest-preserved
loop-rest-preserved g c =
    one_more_read c.args.script.now c.loop-rest.rest.now c.in-Ok.behind.now
    (steps_of c.loop-rest.steps.items) (steps_of c.push.new.self.items) (step_of c.in-Ok.step)
    c.loop-rest.invariant c.in-Ok.ensures.step
    (steps_more c.loop-rest.steps.items c.push.new.self.items c.in-Ok.step
    c.in_ok-push-in-Ok.ensures.items)

pub returns-in-Err-NotAStep-clause-other : goal.returns-in-Err-NotAStep-clause-other
returns-in-Err-NotAStep-clause-other g c =
    first_other c.args.script.now c.loop-rest.rest.now (steps_of c.loop-rest.steps.items)
    (c.len.result + 1) c.loop-rest.invariant
    (not_empty c.is_empty.result c.loop-rest.rest.now c.loop-rest-test.true c.is_empty.ensures)
    (c.in-Err-NotAStep.ensures.other (ap Err c.in-Err-NotAStep.field-0-is))
    (let m = length-map c.loop-rest.steps.items step_of in let o = c.loop-rest.steps.ok in
    omega (arith, c.len.ensures, m, o))

pub returns-clause-steps : goal.returns-clause-steps
returns-clause-steps g c =
    all_read c.args.script.now c.loop-rest.rest.now (steps_of c.loop-rest.steps.items)
    c.loop-rest.invariant
    (is_nothing c.is_empty.result c.loop-rest.rest.now c.loop-rest-test.false c.is_empty.ensures)
