-- A certificate in the parts that stages hold. This project's own.
use Rattle.std.specs.Prelude.{ℕ, List}
use Rattle.misere_theory.specs.Certificates.{Certificate}
use Rattle.monoid_table.specs.Grids.{Grid}
use Rattle.monoid_table.specs.Pretending.{Pretending}
use Rattle.certificate.specs.Fields.{Fields, certificate_of}
use Rattle.check_machine.specs.LawfulCertificates.{fields_of}
use Rattle.checker.specs.declared.lines.Lines.{Lines}

abbrev pub parts_of : {A : Type 0} → Lines A → List ℕ → Grid → Pretending → Fields
parts_of lines code table phi =
    fields_of code table phi lines.portion.items lines.words.items lines.apart.items

abbrev pub whole_of : {A : Type 0} → Lines A → List ℕ → Grid → Pretending → Certificate
whole_of lines code table phi = certificate_of (parts_of lines code table phi)
