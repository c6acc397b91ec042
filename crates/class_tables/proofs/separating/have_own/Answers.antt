use Rattle.std.proofs.Common.{◌≤◌, length, refl, arith}
use Rattle.presentations.specs.declared.TheConstants.{LETTERS}
use Rattle.presented_tables.proofs.Below.{below}
use Rattle.presented_claims.specs.Led.{RunsOn}
use Rattle.class_tables.specs.Separated.{HasOwn}
use Rattle.class_tables.proofs.separating.have_own.Goals as goal

pub loop-j-preserved : goal.loop-j-preserved
loop-j-preserved c =
    below (λ k. length c.args.folds.now ≤ LETTERS → RunsOn c.args.folds.now c.args.a.now k
    → HasOwn c.args.folds.now c.args.a.now c.args.led.now k) c.loop-j.j c.loop-j.invariant
    (c.if-not-has_own_if_on.ensures refl)

pub returns : goal.returns
returns c = λ _ few j run. c.loop-j.invariant j (let lt = run.0 in omega (arith, lt, few, c.loop-j-test.false)) few run
