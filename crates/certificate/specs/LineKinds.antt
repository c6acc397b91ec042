-- The lines of each kind, as a writer takes them one after another. This project's own.
use Rattle.std.specs.Prelude.{List, [], ◌∷◌, map, codes}
use Rattle.std.specs.Fmt.{decimal}
use Rattle.misere_theory.specs.Certificates.{Certificate, format_of}
use Rattle.octal_code.specs.Text.{code_text}
use Rattle.certificate_text.specs.Spelling.{Line, key_word, row_line, said, apart_lines}
use Rattle.certificate.specs.declared.writing.LineKind.{LineKind}
use Rattle.certificate.specs.declared.writing.LineKind.TheVariants.{Version, Code, Order, Start, Period, Phi, Portion, Words, Rows, Apart, End}

abbrev pub lines_of : Certificate → LineKind → List Line
lines_of c Version = record { name = codes "mqc"; words = decimal (format_of c) ∷ [] } ∷ []
lines_of c Code = record { name = codes "code"; words = code_text c.code ∷ [] } ∷ []
lines_of c Order = record { name = codes "order"; words = decimal c.order ∷ [] } ∷ []
lines_of c Start = record { name = codes "start"; words = decimal c.start ∷ [] } ∷ []
lines_of c Period = record { name = codes "period"; words = decimal c.period ∷ [] } ∷ []
lines_of c Phi = record { name = codes "phi"; words = map decimal c.phi } ∷ []
lines_of c Portion = record { name = codes "portion"; words = map decimal c.portion } ∷ []
lines_of c Words = record { name = codes "words"; words = map key_word c.words } ∷ []
lines_of c Rows = map row_line (said c).rows
lines_of c Apart = apart_lines c
lines_of c End = record { name = codes "end"; words = [] } ∷ []
