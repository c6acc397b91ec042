-- Stage by stage: what comes next.
use Rattle.std.proofs.Common.{inl, sym, arith}
use Rattle.checker.proofs.ComeLemmas.{comes_none, comes_one}
use Rattle.checker.proofs.stage.Stage.work.Goals as goal

pub returns-then-left-eq0 : goal.returns-then-left-eq0
returns-then-left-eq0 g c = λ _. comes_none c.args.bytes.now c.args.limit _ _ c.if-left-eq0.true

pub returns-in-Reading : goal.returns-in-Reading
returns-in-Reading g c =
    λ _. rw c.in-Reading.is (comes_one c.args.bytes.now c.args.limit _ _ _ (omega arith) c.turn.ensures)

pub returns-in-Laws : goal.returns-in-Laws
returns-in-Laws g c = λ _. rw c.in-Laws.is (c.work.ensures c.args.bytes.now c.args.limit)

pub returns-in-Periods : goal.returns-in-Periods
returns-in-Periods g c = λ _. rw c.in-Periods.is (c.work-in-Periods.ensures c.args.bytes.now c.args.limit)

pub returns-in-Keys : goal.returns-in-Keys
returns-in-Keys g c =
    λ _. rw c.in-Keys.is
    (comes_one c.args.bytes.now c.args.limit _ _ _ (omega arith) (inl (sym c.turn-in-Keys.ensures)))

pub returns-in-Products : goal.returns-in-Products
returns-in-Products g c =
    λ _. rw c.in-Products.is
    (comes_one c.args.bytes.now c.args.limit _ _ _ (omega arith) (inl (sym c.turn-in-Products.ensures)))

pub returns-in-Separating : goal.returns-in-Separating
returns-in-Separating g c =
    λ _. rw c.in-Separating.is
    (comes_one c.args.bytes.now c.args.limit _ _ _ (omega arith) (inl (sym (c.turn-in-Separating.ensures c.args.limit))))

pub returns-in-Ok : goal.returns-in-Ok
returns-in-Ok g c =
    λ _. rw c.in-Pairs.is (rw c.in-Ok.is at (c.work-in-Pairs.ensures c.args.bytes.now))

pub returns-in-Err : goal.returns-in-Err
returns-in-Err g c =
    λ _. rw c.in-Pairs.is (rw c.in-Err.is at (c.work-in-Pairs.ensures c.args.bytes.now))
