use Rattle.std.proofs.Common.{rules, ◌≡◌, ◌∙◌, arith, refl}
use Rattle.std.specs.String.{string_bytes}
use Rattle.solve_command.specs.Certifies.AreNotCertified.{NoTable}
use Rattle.solve_command.proofs.ToldTexts.{table_told}
use Rattle.solve_command.proofs.telling.certify_bytes.Goals as goal

pub returns-in-Ok-clause-tells : goal.returns-in-Ok-clause-tells
returns-in-Ok-clause-tells c =
    table_told c.in-Ok.table c.args.limit c.args.bytes.now c.tell_table.result c.in-Ok.ensures.ok
    c.tell_table.ensures.tells

pub returns-in_ok-text-in-Err-Text-clause-tells : goal.returns-in_ok-text-in-Err-Text-clause-tells
returns-in_ok-text-in-Err-Text-clause-tells c =
    let same : c.into_bytes.result.items ≡ string_bytes c.in_ok-text-in-Err-Text.text = search rules in (
      (λ e. absurd (omega (arith, e))),
      (λ n. NoTable c.in-Err-Text.line
          (rw c.in-Err-Text.field-0-is at c.in-Err-Text.ensures.none)
          (same ∙ c.in_ok-text-in-Err-Text.ensures) refl),
    )
