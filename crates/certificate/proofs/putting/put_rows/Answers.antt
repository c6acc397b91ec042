use Rattle.std.proofs.Common.{rules, ◌≡◌, ◌+◌, ◌-◌, ◌*◌, [], ℕ, length, take, drop, get_or, sym, ap, ◌∙◌, subst, arith, refl}
use Rattle.std.specs.Io.KnownBytes.{Appends}
use Rattle.std.specs.List.{flat_map}
use Rattle.std.proofs.lemmas.Result.{err_from_is_err_and}
use Rattle.certificate_text.specs.Spelling.{said}
use Rattle.certificate.proofs.Out.{pieces_go_on, pieces_stop, pieces_are_all, rows_text, row_text}
use Rattle.certificate.proofs.Rows.{row_read, rows_fit}
use Rattle.certificate.proofs.Said.{part_long, part_at}
use Rattle.certificate.proofs.putting.put_rows.Given.{Over}
use Rattle.certificate.proofs.putting.put_rows.Goals as goal
use Rattle.certificate.proofs.putting.put_rows.Goals.{After-put_line, After-said_rows-start}

pub loop-x-init : goal.loop-x-init
loop-x-init g c =
    let none : 0 ≡ c.said_rows-start.result.0 - c.said_rows-start.result.0 = omega arith in (
      subst
          (λ (k : ℕ). Appends (g.W.Sink.taken c.args.sink.now) (g.W.Sink.taken c.args.sink.now)
          (flat_map row_text (take k (said c.args.cert.now).rows))) none (search rules),
      refl,
    )

long : (g : Over) (c : goal.After-said_rows-start g)
    → length (said c.args.cert.now).rows
    ≡ c.said_rows-start.result.1 - c.said_rows-start.result.0
long g c = part_long c.args.cert.now.rows (said c.args.cert.now).rows c.said_rows-start.result.0
    c.said_rows-start.result.1 c.said_rows-start.ensures.rows c.said_rows-start.ensures.rising
    (omega (arith, c.said_rows-start.ensures.within, c.order-order.ensures.ranges.rows.0))

-- the row that goes out
is : (g : Over) (c : goal.After-put_line g)
    → row_text (take (c.loop-x.x * c.order-order.result + c.order-order.result
    - c.loop-x.x * c.order-order.result) (drop (c.loop-x.x * c.order-order.result)
    c.rows-rows.result.now))
    ≡ row_text (get_or (said c.args.cert.now).rows (c.loop-x.x - c.said_rows-start.result.0) [])
is g c = ap row_text
    (row_read c.args.cert.now.order c.order-order.result c.args.cert.now.rows
    c.rows-rows.result.now c.loop-x.x c.order-order.ensures.value c.rows-rows.ensures
    (rows_fit c.args.cert.now c.order-order.ensures.ranges) (omega (
      arith,
      c.loop-x-test.true,
      c.said_rows-start.ensures.within,
      c.order-order.ensures.ranges.rows.0,
    ))
    ∙ sym
    (part_at c.args.cert.now.rows (said c.args.cert.now).rows c.said_rows-start.result.0
    c.said_rows-start.result.1 c.said_rows-start.ensures.rows c.said_rows-start.ensures.rising
    (omega (arith, c.said_rows-start.ensures.within, c.order-order.ensures.ranges.rows.0))
    c.loop-x.x c.loop-x.auto.x c.loop-x-test.true))

pub returns-in_err-put_line-clause-puts : goal.returns-in_err-put_line-clause-puts
returns-in_err-put_line-clause-puts g c =
    let p = err_from_is_err_and c.from_residual.result c.from_residual.ensures.1 in
    let here = goal.at.returns-in_err-put_line-clause-puts g c in
    rw (p.1) (pieces_stop row_text _ _ _ (said c.args.cert.now).rows
    (c.loop-x.x - c.said_rows-start.result.0) [] _ (omega (
      arith,
      long g here.After-said_rows-start,
      c.loop-x-test.true,
      c.loop-x.auto.x,
    )) c.loop-x.invariant.0 _
    c.in_err-put_line.ensures.puts (is g here.After-put_line) (rows_text (said c.args.cert.now).rows))

pub loop-x-preserved : goal.loop-x-preserved
loop-x-preserved g c =
    let here = goal.at.loop-x-preserved g c in
    let next : c.loop-x.x - c.said_rows-start.result.0 + 1
    ≡ c.loop-x.x + 1 - c.said_rows-start.result.0 =
    omega (arith, c.loop-x.auto.x) in (
      subst
          (λ (k : ℕ). Appends (g.W.Sink.taken c.args.sink.now)
          (g.W.Sink.taken c.put_line.new.sink)
          (flat_map row_text (take k (said c.args.cert.now).rows))) next
          (pieces_go_on row_text _ _ _ (said c.args.cert.now).rows
          (c.loop-x.x - c.said_rows-start.result.0) [] _ (omega (
            arith,
            long g here.After-said_rows-start,
            c.loop-x-test.true,
            c.loop-x.auto.x,
          ))
          c.loop-x.invariant.0 c.in_ok-put_line.ensures.puts (is g here.After-put_line)),
      search rules,
    )

pub returns-clause-puts : goal.returns-clause-puts
returns-clause-puts g c =
    pieces_are_all row_text _ _ (said c.args.cert.now).rows (c.loop-x.x - c.said_rows-start.result.0)
    _ (omega (
      arith,
      long g (goal.at.returns-clause-puts g c).After-said_rows-start,
      c.loop-x-test.false,
    )) c.loop-x.invariant.0 (rows_text (said c.args.cert.now).rows)
