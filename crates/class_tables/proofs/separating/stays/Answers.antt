use Rattle.std.proofs.Common.{◌≡◌, refl, arith}
use Rattle.std.specs.Prelude.{slice_index}
use Rattle.presented_tables.proofs.Below.{below}
use Rattle.presented_claims.specs.Led.{RunsOn}
use Rattle.class_tables.specs.Leads.{turn_of}
use Rattle.class_tables.proofs.separating.stays.Goals as goal

pub loop-j-preserved : goal.loop-j-preserved
loop-j-preserved c =
    below (λ k. RunsOn c.args.folds.now c.args.a.now k → slice_index (turn_of c.args.led.now k) c.args.i ≡ 0) c.loop-j.j
    c.loop-j.invariant (c.if-not-is_none_at.ensures refl)

pub returns : goal.returns
returns c = λ _ few j run. c.loop-j.invariant j (let lt = run.0 in omega (arith, lt, few, c.loop-j-test.false)) run
