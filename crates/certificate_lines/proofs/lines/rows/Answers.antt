use Rattle.std.proofs.lemmas.Result.{err_from_is_err_and}
use Rattle.certificate_lines.proofs.Loop.{rows_fail, rows_go_on, rows_are_done}
use Rattle.certificate_lines.proofs.lines.rows.Goals as goal

pub returns-in_err-line_behind : goal.returns-in_err-line_behind
returns-in_err-line_behind g c =
    let p = err_from_is_err_and c.from_residual.result c.from_residual.ensures.1 in
    rw (p.1, p.2)
    (rows_fail _ _ _ _ _ _ c.loop.invariant c.in_err-line_behind.field-0.0 c.loop-test.true
    c.in_err-line_behind.ensures)

pub loop-preserved : goal.loop-preserved
loop-preserved g c =
    rows_go_on _ _ _ _ _ _ c.loop.invariant c.line_behind.new.found.items c.line_behind.new.reader
    c.loop-test.true c.in_ok-line_behind.ensures

pub returns : goal.returns
returns g c =
    rows_are_done _ _ _ _ _ _ c.loop.invariant c.loop-test.false
