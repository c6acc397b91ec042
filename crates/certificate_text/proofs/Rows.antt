-- Rows, read and written.
-- Each row is a line; what is read of them lies one behind the other, with nothing besides.
use Rattle.std.proofs.Common.{◌≡◌, ℕ, zero, suc, ◌*◌, ◌^◌, ◌<◌, ◌≤◌, List, [], ◌∷◌, ◌++◌, map, length, Some, refl, ap, ◌∙◌, length-append, arith, codes}
use Rattle.std.specs.Fmt.{decimal}
use Rattle.std.proofs.Math.Nat.{suc-mul}
use Rattle.std.specs.List.{AllByRecursion, concat}
use Rattle.std.proofs.lemmas.List.{take_at, drop_at}
use Rattle.std.proofs.lemmas.Option.{some_pair_parts}
use Rattle.certificate_text.specs.Spelling.{spaced}
use Rattle.certificate_text.specs.Reading.{rows_at, rows_of}
use Rattle.certificate_text.proofs.Numbers.{bind_some}
use Rattle.certificate_text.proofs.Words.{numbers_reader, line_takes, line_again}

-- ---- rows

-- rows one after the other, and then the rest
abbrev pub rows_text : List (List ℕ) → List ℕ → List ℕ
rows_text [] rest = rest
rows_text (row ∷ rows) rest = codes "row" ++ (spaced (map decimal row) ++ 10 ∷ rows_text rows rest)

abbrev pub RowFits : ℕ → List ℕ → Type 0
RowFits order row = (length row ≡ order) × AllByRecursion (λ x. x < order) row

-- a row and what lies behind it
split_row : (order n : ℕ) (row xs : List ℕ) → length row ≡ order
    → rows_of order (suc n) (row ++ xs) ≡ row ∷ rows_of order n xs
split_row order n row xs e = rw (take_at row xs order e, drop_at row xs order e) refl

pub rows_take : (order n : ℕ) (bytes xs rest : List ℕ) → 0 < order → order ≤ 2 ^ 16
    → rows_at order n bytes ≡ Some (xs, rest)
    → (bytes ≡ rows_text (rows_of order n xs) rest) × (length (rows_of order n xs) ≡ n)
    × AllByRecursion (RowFits order) (rows_of order n xs) × (length xs ≡ n * order)
    × (concat (rows_of order n xs) ≡ xs)
unfolding rows_at
rows_take order zero bytes xs rest low small e =
    let p = some_pair_parts _ _ _ _ e in rw (← p.0) (p.1, refl, tt, omega arith, refl)
rows_take order (suc n) bytes xs rest low small e =
    let a = bind_some e in
    let b = bind_some a.2 in
    let at_ = line_takes (numbers_reader order low small) _ _ _ _ _ a.1 in
    let bt = rows_take order n _ _ _ low small b.1 in
    let p = some_pair_parts _ _ _ _ b.2 in
    let whole = at_.0 ∙ ap (λ t. codes "row" ++ (spaced (map decimal a.0.0) ++ 10 ∷ t))
    (bt.0 ∙ ap (rows_text (rows_of order n b.0.0)) p.1) in
    let long = length-append a.0.0 b.0.0 in
    let more = suc-mul n order in
    rw (
      ← p.0,
      take_at a.0.0 b.0.0 order at_.1,
      drop_at a.0.0 b.0.0 order at_.1,
    ) (
      whole,
      ap suc bt.1,
      ((at_.1, at_.2), bt.2),
      omega arith,
      ap (λ ys. a.0.0 ++ ys) bt.4,
    )

pub rows_again : (order : ℕ) (rows : List (List ℕ)) (rest : List ℕ) → 0 < order → order ≤ 2 ^ 16
    → AllByRecursion (RowFits order) rows → rows_at order (length rows) (rows_text rows rest)
    ≡ Some (concat rows, rest)
unfolding rows_at
rows_again order [] rest low small fits = refl
rows_again order (row ∷ rows) rest low small fits =
    rw (
      line_again (numbers_reader order low small)
          (codes "row") order row (rows_text rows rest) fits.0.0 fits.0.1,
      rows_again order rows rest low small fits.1,
    ) refl

pub rows_of_concat : (order : ℕ) (rows : List (List ℕ)) → AllByRecursion (RowFits order) rows
    → rows_of order (length rows) (concat rows) ≡ rows
rows_of_concat order [] fits = refl
rows_of_concat order (row ∷ rows) fits =
    split_row order (length rows) row (concat rows) fits.0.0
    ∙ ap (λ rs. row ∷ rs) (rows_of_concat order rows fits.1)
