use Rattle.std.proofs.Common.{rules, refl}
use Rattle.std.proofs.lemmas.Result.{err_from_is_err_and}
use Rattle.certificate.specs.declared.writing.LineKind.TheVariants.{Version}
use Rattle.certificate.proofs.AllLines.{all_kinds, kind_text, all_lines}
use Rattle.certificate.proofs.Out.{pieces_go_on, pieces_stop, pieces_are_all}
use Rattle.certificate.proofs.writing.write.Goals as goal

pub returns-in_err-put_lines-clause-puts : goal.returns-in_err-put_lines-clause-puts
returns-in_err-put_lines-clause-puts g c =
    let p = err_from_is_err_and c.from_residual.result c.from_residual.ensures.1 in
    rw (p.1) (pieces_stop (kind_text c.args.cert.now) _ _ _ all_kinds c.loop-kind.kind-index Version
    _ c.loop-kind-test.true c.loop-kind.invariant.0 _ c.in_err-put_lines.ensures.puts refl
    (all_lines c.args.cert.now))

pub loop-kind-preserved : goal.loop-kind-preserved
loop-kind-preserved g c = (
  pieces_go_on (kind_text c.args.cert.now) _ _ _ all_kinds c.loop-kind.kind-index Version _
      c.loop-kind-test.true c.loop-kind.invariant.0 c.in_ok-put_lines.ensures.puts refl,
  search rules,
)

pub returns-clause-puts : goal.returns-clause-puts
returns-clause-puts g c =
    pieces_are_all (kind_text c.args.cert.now) _ _ all_kinds c.loop-kind.kind-index _
    c.loop-kind-test.false c.loop-kind.invariant.0 (all_lines c.args.cert.now)
