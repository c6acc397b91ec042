use Rattle.std.proofs.Common.{sym, ◌∙◌}
use Rattle.std.proofs.lemmas.List.Elements.{recursion_from_All}
use Rattle.octal_code.specs.Text.{IsCodeText}
use Rattle.certificate_text.specs.Reading.{code_line_at}
use Rattle.certificate_lines.proofs.FirstLine.{first_line, IsNoLf, none_is_read}
use Rattle.certificate_lines.proofs.front.code_line.Goals as goal

pub returns-in-Err : goal.returns-in-Err
returns-in-Err c =
    none_is_read (code_line_at c.args.reader.now) (λ digits rest e.
    let t = c.code_lines_are_codes.ensures.taken c.args.reader.now digits rest e in
    let same =
    first_line t.0 c.in-Some.line.now rest c.line.new.self (recursion_from_All IsNoLf t.0 t.3)
    (recursion_from_All IsNoLf c.in-Some.line.now c.in-Some.ensures.1)
    (sym t.1 ∙ c.in-Some.ensures.0) in
    let spelled : IsCodeText c.in-Some.line.now digits = rw (← same.0) t.2 in
    let clash = (c.in-Err.ensures.code digits).1 spelled in
    absurd cc)
