-- The lines of the table, read and written: all rows and the separators, or the first rows alone.
-- Line by line: what is read is their text, and their text is read.
use Rattle.std.proofs.Common.{◌≡◌, ℕ, ◌-◌, ◌*◌, ◌/◌, ◌^◌, ◌<◌, ◌≤◌, true, List, ◌++◌, map, length, Some, refl, ap, ◌∙◌, codes}
use Rattle.std.specs.Fmt.{decimal}
use Rattle.std.specs.List.{AllByRecursion, concat}
use Rattle.std.proofs.lemmas.Option.{some_pair_parts}
use Rattle.misere_theory.specs.Certificates.{Certificate}
use Rattle.compact_certificates.specs.Rows.{firsts_of}
use Rattle.compact_certificates.specs.Compact.{expanded, is_expandable}
use Rattle.certificate_text.specs.Reading.{rows_at, rows_of, table_at, first_rows_at}
use Rattle.certificate_text.proofs.Numbers.{bind_some, test_some, fixed_again, fixed_then}
use Rattle.certificate_text.proofs.Words.{numbers_reader, line_takes, line_again}
use Rattle.certificate_text.proofs.Rows.{rows_text, RowFits, rows_take, rows_again, rows_of_concat}
use Rattle.certificate_text.proofs.Lists.{line_text}

-- n rows, each of as many elements below the order
abbrev pub RowsFit : ℕ → ℕ → List (List ℕ) → Type 0
RowsFit order n rows = (length rows ≡ n) × AllByRecursion (RowFits order) rows

-- rows that are read again, and are what was read
counted_again : (order n : ℕ) (rows : List (List ℕ)) (rest : List ℕ) → 0 < order → order ≤ 2 ^ 16
    → RowsFit order n rows
    → (rows_at order n (rows_text rows rest) ≡ Some (concat rows, rest))
    × (rows_of order n (concat rows) ≡ rows)
counted_again order n rows rest low small fits =
    rw (← fits.0) (rows_again order rows rest low small fits.1, rows_of_concat order rows fits.1)

-- ---- all rows, and the separators

abbrev pub table_text : List (List ℕ) → List ℕ → List ℕ → List ℕ
table_text rows apart rest =
    rows_text rows (line_text (codes "apart") (map decimal apart) (codes "end\n" ++ rest))

pub record TableFits (order : ℕ) (rows : List (List ℕ)) (apart : List ℕ) : Type 0 where
  pub rows_fit : RowsFit order order rows
  pub apart_fit : (length apart ≡ order * (order - 1) / 2)
      × AllByRecursion (λ x. x < order) apart

pub table_takes : (l : Certificate) (bytes : List ℕ) (c : Certificate) (rest : List ℕ)
    → 0 < l.order → l.order ≤ 2 ^ 16 → table_at l bytes ≡ Some (c, rest)
    → (rows : List (List ℕ)) × (apart : List ℕ) × (record l { rows = rows; apart = apart } ≡ c)
    × (bytes ≡ table_text rows apart rest) × TableFits l.order rows apart
unfolding table_at
table_takes l bytes c rest low small e =
    let rows = bind_some e in
    let apart = bind_some rows.2 in
    let end = fixed_then _ _ apart.2 in
    let p = some_pair_parts _ _ _ _ end.2 in
    let rows_t = rows_take _ _ _ _ _ low small rows.1 in
    let apart_t = line_takes (numbers_reader l.order low small) _ _ _ _ _ apart.1 in (
      rows_of l.order l.order rows.0.0,
      apart.0.0,
      p.0,
      rows_t.0 ∙ ap (rows_text (rows_of l.order l.order rows.0.0)) cc,
      record { rows_fit = (rows_t.1, rows_t.2); apart_fit = (apart_t.1, apart_t.2) },
    )

pub table_again : (l : Certificate) (rows : List (List ℕ)) (apart rest : List ℕ) → 0 < l.order
    → l.order ≤ 2 ^ 16 → TableFits l.order rows apart
    → table_at l (table_text rows apart rest)
    ≡ Some (record l { rows = rows; apart = apart }, rest)
unfolding table_at
table_again l rows apart rest low small fits =
    let end_ : List ℕ = codes "end\n" ++ rest in
    let apart_ : List ℕ = line_text (codes "apart") (map decimal apart) end_ in
    let counted = counted_again l.order l.order rows apart_ low small fits.rows_fit in
    rw (
      counted.0,
      line_again (numbers_reader l.order low small) (codes "apart") (l.order * (l.order - 1) / 2)
          apart end_ fits.apart_fit.0 fits.apart_fit.1,
      fixed_again (codes "end\n") rest,
      counted.1,
    ) refl

-- ---- the first rows alone

abbrev pub first_rows_text : List (List ℕ) → List ℕ → List ℕ
first_rows_text rows rest = rows_text rows (codes "end\n" ++ rest)

pub first_rows_take : (l : Certificate) (bytes : List ℕ) (c : Certificate) (rest : List ℕ)
    → 0 < l.order → l.order ≤ 2 ^ 16 → first_rows_at l bytes ≡ Some (c, rest)
    → (rows : List (List ℕ)) × (expanded (record l { rows = rows }) ≡ c)
    × (bytes ≡ first_rows_text rows rest) × RowsFit l.order (firsts_of l.words) rows
    × (is_expandable l ≡ true)
unfolding first_rows_at
first_rows_take l bytes c rest low small e =
    let rows = bind_some e in
    let end = fixed_then _ _ rows.2 in
    let t = test_some end.2 in
    let p = some_pair_parts _ _ _ _ t.1 in
    let rows_t = rows_take _ _ _ _ _ low small rows.1 in (
      rows_of l.order (firsts_of l.words) rows.0.0,
      p.0,
      rows_t.0 ∙ ap (rows_text (rows_of l.order (firsts_of l.words) rows.0.0)) cc,
      (rows_t.1, rows_t.2),
      t.0,
    )

pub first_rows_again : (l : Certificate) (rows : List (List ℕ)) (rest : List ℕ) → 0 < l.order
    → l.order ≤ 2 ^ 16 → RowsFit l.order (firsts_of l.words) rows → is_expandable l ≡ true
    → first_rows_at l (first_rows_text rows rest)
    ≡ Some (expanded (record l { rows = rows }), rest)
unfolding first_rows_at
first_rows_again l rows rest low small fits can =
    let end_ : List ℕ = codes "end\n" ++ rest in
    let counted = counted_again l.order (firsts_of l.words) rows end_ low small fits in
    rw (counted.0, fixed_again (codes "end\n") rest, can, counted.1) refl
