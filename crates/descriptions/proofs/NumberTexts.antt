-- The texts of one element more in lists for GAP, and all statements put together.
use Rattle.std.proofs.Common.{◌≡◌, ◌∙◌, ◌+◌, ◌<◌, ◌++◌, ◌∷◌, [], zero, suc, ℕ, List, ap, ap₂, append-nil, append_assoc, arith, codes, length, sym, take}
use Rattle.std.specs.Prelude.{slice_index_or}
use Rattle.misere_theory.specs.Certificates.{Certificate}
use Rattle.certificate.specs.Fields.{grid_of}
use Rattle.monoid_table.specs.Grids.{Grid}
use Rattle.descriptions.specs.MultiplicationTables.{list_statements, more_numbers, number_text, numbers_text, rows_text, table_statement, table_text, tail_statements}
use Rattle.descriptions.specs.Systems.{title_text}

pub numbers-push : (elements : List ℕ) (i d : ℕ) → i < length elements
    → more_numbers (take (i + 1) elements)
    ≡ (more_numbers (take i elements) ++ codes ",") ++ number_text (slice_index_or elements i d)
numbers-push [] i d lt = absurd (omega arith)
numbers-push (x ∷ elements) zero d lt = append-nil (codes "," ++ number_text x)
numbers-push (x ∷ elements) (suc i) d lt =
    let p = codes "," ++ number_text x in
    let m = more_numbers (take i elements) in
    let n = number_text (slice_index_or elements i d) in
    let next : suc i + 1 ≡ suc (i + 1) = omega arith in
    ap (λ j. more_numbers (take j (x ∷ elements))) next
    ∙ ap (λ t. p ++ t) (numbers-push elements i d (omega arith))
    ∙ sym (append_assoc p (m ++ codes ",") n) ∙ ap (λ t. t ++ n) (sym (append_assoc p m (codes ",")))

pub table-put : (c d : Certificate) (t : Grid) (first lists tail : List ℕ) (start period : ℕ) → d ≡ c
    → t ≡ grid_of c
    → first ≡ table_statement (title_text d) (rows_text t t.order)
    → lists ≡ list_statements (numbers_text d.portion) (numbers_text d.phi)
    → tail ≡ tail_statements start period → start ≡ d.start → period ≡ d.period
    → first ++ lists ++ tail ≡ table_text c
table-put c d t first lists tail start period same table first_is lists_are tail_is start_is period_is =
    ap₂ (λ (x y : List ℕ). x ++ y)
    (ap₂ (λ (x y : List ℕ). x ++ y)
    (first_is
    ∙ ap (λ (x : Certificate). table_statement (title_text x) (rows_text t t.order)) same
    ∙ ap (λ (g : Grid). table_statement (title_text c) (rows_text g g.order)) table)
    (lists_are
    ∙ ap (λ (x : Certificate). list_statements (numbers_text x.portion) (numbers_text x.phi)) same))
    (tail_is ∙ ap₂ tail_statements (start_is ∙ ap (λ (x : Certificate). x.start) same)
    (period_is ∙ ap (λ (x : Certificate). x.period) same))
