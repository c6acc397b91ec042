use Rattle.std.proofs.Common.{subst, arith}
use Rattle.checker.specs.Stages.{phase_of}
use Rattle.checker.specs.JobViews.{IsEnding}
use Rattle.checker.proofs.DueLemmas.{come_first, decided_at, come_true}
use Rattle.checker.proofs.checking.check.Goals as goal

-- far fewer units are spent than there are, so that some are left
pub answer-requires : goal.answer-requires
answer-requires g c =
    let e = c.checks_end.ensures in
    let h = c.advance.ensures.come 0 (come_first c.args.bytes.now c.args.limit) in
    let w = e.before c.args.bytes.now c.args.limit _ h.to h.reaches in
    let b = e.few c.args.bytes.now c.args.limit (omega arith) in
    c.advance.ensures.whole (omega arith)

pub returns-clause-true_of : goal.returns-clause-true_of
returns-clause-true_of g c =
    let e = c.checks_end.ensures in
    subst (IsEnding c.args.bytes.now c.args.limit) c.answer.ensures
    (come_true c.args.bytes.now c.args.limit (e.spent c.args.bytes.now c.args.limit)
    (e.before c.args.bytes.now c.args.limit)
    (c.verdicts_are_true.ensures c.args.bytes.now c.args.limit).0
    (c.true_answers.ensures c.args.bytes.now c.args.limit _ tt) _ (phase_of c.advance.new.self)
    (c.advance.ensures.come 0 (come_first c.args.bytes.now c.args.limit)))

pub returns-clause-decided : goal.returns-clause-decided
returns-clause-decided g c =
    let e = c.checks_end.ensures in
    decided_at c.args.bytes.now c.args.limit (e.spent c.args.bytes.now c.args.limit)
    (e.before c.args.bytes.now c.args.limit) _ (phase_of c.advance.new.self) _ c.answer.ensures
    (c.advance.ensures.come 0 (come_first c.args.bytes.now c.args.limit))
