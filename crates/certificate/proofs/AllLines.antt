-- The lines of all kinds, in their order, are the certificate's.
use Rattle.std.proofs.Common.{◌≡◌, ℕ, List, [], ◌∷◌}
use Rattle.std.specs.List.{flat_map}
use Rattle.misere_theory.specs.Certificates.{Certificate}
use Rattle.certificate_text.specs.Spelling.{text, lines}
use Rattle.certificate.specs.declared.writing.LineKind.{LineKind}
use Rattle.certificate.specs.declared.writing.LineKind.TheVariants.{Version, Code, Order, Start, Period, Phi, Portion, Words, Rows, Apart, End}
use Rattle.certificate.specs.LineKinds.{lines_of}
use Rattle.certificate.proofs.Out.{text_of_pieces}

abbrev pub all_kinds : List LineKind
all_kinds = Version ∷ Code ∷ Order ∷ Start ∷ Period ∷ Phi ∷ Portion ∷ Words ∷ Rows ∷ Apart ∷ End
    ∷ []

abbrev pub kind_text : Certificate → LineKind → List ℕ
kind_text c kind = text (lines_of c kind)

pub all_lines : (c : Certificate) → flat_map (kind_text c) all_kinds ≡ text (lines c)
all_lines c = text_of_pieces (lines_of c) all_kinds
