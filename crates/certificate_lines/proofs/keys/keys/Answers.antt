use Rattle.std.proofs.lemmas.Result.{err_from_is_err_and}
use Rattle.certificate_text.specs.Reading.{key_at}
use Rattle.certificate_lines.proofs.Loop.{goes_on, no_space, no_word, is_done}
use Rattle.certificate_lines.proofs.keys.keys.Goals as goal

pub returns-in_err-space : goal.returns-in_err-space
returns-in_err-space g c =
    let p = err_from_is_err_and c.from_residual.result c.from_residual.ensures.1 in
    rw (p.1, p.2)
    (no_space (key_at c.args.order c.args.heaps) _ _ _ _ _ c.loop.invariant
    c.in_err-space.field-0.0 c.loop-test.true c.in_err-space.ensures)

pub returns-in_err-x : goal.returns-in_err-x
returns-in_err-x g c =
    let p = err_from_is_err_and c.from_residual-in_err-x.result c.from_residual-in_err-x.ensures.1
    in
    rw (p.1, p.2)
    (no_word (key_at c.args.order c.args.heaps) _ _ _ _ _ c.loop.invariant c.in_err-x.field-0.0
    c.space.new.self c.loop-test.true c.in_ok-space.ensures c.in_err-x.ensures)

pub loop-preserved : goal.loop-preserved
loop-preserved g c =
    rw c.in_ok-push.ensures.items
    (goes_on (key_at c.args.order c.args.heaps) _ _ _ _ _ c.loop.invariant c.space.new.self
    c.in_ok-x.x c.key.new.reader c.loop-test.true c.in_ok-space.ensures c.in_ok-x.ensures)

pub returns : goal.returns
returns g c =
    is_done (key_at c.args.order c.args.heaps) _ _ _ _ _ c.loop.invariant c.loop-test.false
