use Rattle.std.proofs.Common.{◌+◌, take, subst, sym}
use Rattle.std.proofs.lemmas.Result.{IfOk-from_err}
use Rattle.catalogue_command.specs.Tables.{AreTexts, IsRow}
use Rattle.catalogue_command.proofs.TextLemmas.{text_more}
use Rattle.catalogue_command.proofs.rows.rows.Goals as goal

pub loop-certified-preserved : goal.loop-certified-preserved
loop-certified-preserved c =
    let cs = c.args.entries.now in
    let i = c.loop-certified.certified-index in
    subst (AreTexts IsRow (take (i + 1) cs)) (sym c.in_ok-push_str.ensures.bytes)
    (text_more IsRow cs i c.certified-item.result _ _ c.loop-certified-test.true
    c.certified-item.is c.loop-certified.invariant
    (subst (IsRow c.certified-item.result) (sym c.as_str.ensures.value) c.in_ok-line.ensures))

pub returns-in_err-line : goal.returns-in_err-line
returns-in_err-line c = IfOk-from_err _ _ c.from_residual.ensures.0

pub returns-in_err-push_str : goal.returns-in_err-push_str
returns-in_err-push_str c = IfOk-from_err _ _ c.from_residual-in_err-push_str.ensures.0
