use Rattle.std.proofs.Common.{◌≢◌, ◌++◌, ◌∷◌, List, ℕ, refl, ap, ◌∙◌}
use Rattle.std.proofs.lemmas.List.Elements.{All-from_recursion}
use Rattle.octal_code.specs.Text.{code_text}
use Rattle.certificate_text.specs.Reading.{code_line_at}
use Rattle.certificate_text.proofs.Codes.{code_line_takes, code_line_again, code_has_no_lf}
use Rattle.certificate_text.proofs.code_lines_are_codes.Goals as goal

pub returns-clause-taken : goal.returns-clause-taken
returns-clause-taken g b digits rest e =
    let t = code_line_takes b digits rest e in (
      code_text digits,
      t.0,
      record { code = t.1; spelled = refl },
      All-from_recursion (λ x. x ≢ 10)
          (code_text digits) (code_has_no_lf digits t.1),
    )

pub returns-clause-again : goal.returns-clause-again
returns-clause-again g word digits rest h =
    ap (λ (w : List ℕ). code_line_at (w ++ 10 ∷ rest)) h.spelled
    ∙ code_line_again digits rest h.code
