use Rattle.std.proofs.Common.{arith, List, ℕ, Some, sym, ap, ◌∙◌}
use Rattle.std.proofs.lemmas.Result.{err_from_is_err_and}
use Rattle.certificate_lines.proofs.Loop.{rising_stops, rising_fails, rising_falls, rising_goes_on, rising_is_done}
use Rattle.certificate_lines.proofs.lines.rising.Goals as goal

pub returns-then-not-takes : goal.returns-then-not-takes
returns-then-not-takes g c =
    rising_stops _ _ _ _ _ _ c.loop.invariant.read c.loop-test.true c.if-not-takes.ensures.taken
    ∙ ap (λ (bytes : List ℕ). Some (c.loop.found.items, bytes)) (sym c.if-not-takes.ensures.stays)

pub returns-in_err-x : goal.returns-in_err-x
returns-in_err-x g c =
    let p = err_from_is_err_and c.from_residual.result c.from_residual.ensures.1 in
    rw (p.1, p.2)
    (rising_fails _ _ _ _ _ _ c.loop.invariant.read c.in_err-x.field-0.0 c.takes.new.self
    c.loop-test.true c.if-not-takes.ensures.taken c.in_err-x.ensures.read)

pub returns-then-x-least : goal.returns-then-x-least
returns-then-x-least g c =
    rising_falls _ _ _ _ _ _ c.loop.invariant.read c.takes.new.self c.in_ok-x.x c.number.new.self
    c.loop-test.true c.if-not-takes.ensures.taken c.in_ok-x.ensures.read c.if-x-least.true

pub loop-preserved : goal.loop-preserved
loop-preserved g c = record {
  small = omega (arith, c.in_ok-x.ensures.below);
  read =
      rw c.in_ok-push.ensures.items
      (rising_goes_on _ _ _ _ _ _ c.loop.invariant.read c.takes.new.self c.in_ok-x.x c.number.new.self
      c.loop-test.true c.if-not-takes.ensures.taken c.in_ok-x.ensures.read c.if-x-least.false);
}

pub returns : goal.returns
returns g c =
    rising_is_done _ _ _ _ _ _ c.loop.invariant.read c.loop-test.false
