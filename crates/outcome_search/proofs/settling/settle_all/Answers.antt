use Rattle.std.proofs.Common.{◌≡◌, ◌-◌, ◌∙◌, sym, arith}
use Rattle.std.proofs.lemmas.List.{get_or_default}
use Rattle.outcome_search.proofs.Found.{IsTop, opened, closed, over, settled, last_outcome}
use Rattle.outcome_search.proofs.settling.settle_all.Given.{Over}
use Rattle.outcome_search.proofs.settling.settle_all.Goals as goal
use Rattle.outcome_search.proofs.settling.settle_all.Goals.{After-look}

-- the last that waits was looked at
top : (g : Over) (c : goal.After-look g)
    → IsTop c.loop-memo.waiting.items (c.len-last.result - 1) c.index.result.now
top g c =
    let some = c.loop-memo.invariant.some in
    record { place = omega arith; is = sym c.index.ensures }

pub returns-then-len-budget-clause-budget : goal.returns-then-len-budget-clause-budget
returns-then-len-budget-clause-budget g c = λ e.
    over _ _ _ _ _ c.loop-memo.invariant _ _
    (top g (goal.at.returns-then-len-budget-clause-budget g c).After-look) c.look.new.next
    (rw c.in-None.is at c.in_ok-look.ensures) (let v = c.len.ensures.value in omega arith)
    c.len.ensures.distinct

pub loop-memo-preserved-in-Continue-branch-3 : goal.loop-memo-preserved-in-Continue-branch-3
loop-memo-preserved-in-Continue-branch-3 g c =
    rw c.in_ok-add-in-None.ensures
    (opened _ _ _ _ _ c.loop-memo.invariant _ _
    (top g (goal.at.loop-memo-preserved-in-Continue-branch-3 g c).After-look) c.look.new.next
    (rw c.in-None.is at c.in_ok-look.ensures) (let v = c.len.ensures.value in omega arith))

pub loop-memo-preserved : goal.loop-memo-preserved
loop-memo-preserved g c =
    let last = c.len-last.result - 1 in
    let t = top g (goal.at.loop-memo-preserved g c).After-look in
    let done : c.remove-done.result ≡ c.index.result.now =
    c.remove-done.ensures.value ∙ get_or_default c.loop-memo.waiting.items last
    c.remove-done.result c.index.result.now (let e = t.place in omega arith) ∙ t.is in
    rw (c.remove-done.ensures.items, c.in_ok-insert-in-Some.ensures, done)
    (closed _ _ _ _ _ c.loop-memo.invariant last _ t c.in-Some.outcome (omega arith)
    (rw c.in-Some.is at c.in_ok-look.ensures))

pub returns-then-last-eq0-clause-answer : goal.returns-then-last-eq0-clause-answer
returns-then-last-eq0-clause-answer g c =
    last_outcome _ _ _ _ _ c.loop-memo.invariant _ _
    (top g (goal.at.returns-then-last-eq0-clause-answer g c).After-look) c.in-Some.outcome
    (let z = c.if-last-eq0.true in omega arith) (rw c.in-Some.is at c.in_ok-look.ensures)

pub returns-then-last-eq0-clause-within : goal.returns-then-last-eq0-clause-within
returns-then-last-eq0-clause-within g c =
    settled _ _ _ _ _ c.loop-memo.invariant _ _
    (top g (goal.at.returns-then-last-eq0-clause-within g c).After-look) c.in-Some.outcome
    (let z = c.if-last-eq0.true in omega arith) (rw c.in-Some.is at c.in_ok-look.ensures)
