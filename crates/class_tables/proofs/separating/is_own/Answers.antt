use Rattle.std.proofs.Common.{◌≡◌, ◌≢◌, refl, arith}
use Rattle.std.specs.Prelude.{slice_index}
use Rattle.presented_tables.proofs.Below.{below}
use Rattle.presented_claims.specs.Led.{RunsOn}
use Rattle.class_tables.specs.Leads.{turn_of}
use Rattle.class_tables.proofs.separating.is_own.Goals as goal

pub loop-k-preserved : goal.loop-k-preserved
loop-k-preserved c =
    below (λ m. RunsOn c.args.folds.now c.args.a.now m → c.args.j ≢ m
    → slice_index (turn_of c.args.led.now m) c.args.i ≡ 0) c.loop-k.k c.loop-k.invariant (c.if-not-is_other_none.ensures refl)

pub returns-clause-alone : goal.returns-clause-alone
returns-clause-alone c = λ _ few k run.
    c.loop-k.invariant k (let lt = run.0 in omega (arith, lt, few, c.loop-k-test.false)) run
