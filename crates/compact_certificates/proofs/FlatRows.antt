-- Rows that lie one behind the other.
use Rattle.std.proofs.Common.{◌≡◌, ℕ, zero, suc, ◌+◌, ◌-◌, ◌*◌, ◌<◌, ◌≤◌, List, [], ◌∷◌, ◌++◌, ◌∙◌, sym, ap, ap₂, arith, map, length, take, drop, get_or, All}
use Rattle.std.specs.Prelude.{slice_index, slice_range}
use Rattle.std.specs.List.{concat}
use Rattle.std.proofs.Math.Nat.{suc-mul}
use Rattle.std.proofs.lemmas.List.{append-nil, length-drop, length-take-le, take_at, take_more, get_or-take, get_or-drop}
use Rattle.std.proofs.Math.Seq.{drop-append-add}
use Rattle.std.proofs.lemmas.List.Elements.{All-tail}
use Rattle.std.proofs.lemmas.List.Folds.{concat-append}
use Rattle.std.proofs.lemmas.List.Sums.{fold-append}
use Rattle.compact_certificates.specs.Flat.{row_in, product_in}
use Rattle.compact_certificates.specs.Rows.{row_by, rows_by}

pub part_long : (a n : ℕ) (xs : List ℕ) → a + n ≤ length xs
    → length (slice_range xs a (a + n)) ≡ n
part_long a n xs l =
    let e : a + n - a ≡ n = omega arith in
    let d = length-drop a xs in
    ap (λ k. length (take k (drop a xs))) e ∙ length-take-le n (drop a xs) (omega arith)

-- row x of rows that lie one behind the other is the x-th of them
pub row_lies : (q : ℕ) (rows : List (List ℕ)) (x : ℕ) → All (λ row. length row ≡ q) rows
    → x < length rows → row_in q (concat rows) x ≡ get_or rows x []
row_lies q [] x h l = absurd (omega arith)
row_lies q (row ∷ rows) zero h l =
    let size : zero * q + q - zero * q ≡ q = omega arith in
    let from : zero * q ≡ 0 = omega arith in
    rw (size, from) (take_at row (concat rows) q (h 0 [] (omega arith)))
row_lies q (row ∷ rows) (suc x) h l =
    let long : length row ≡ q = h 0 [] (omega arith) in
    let more : suc x * q ≡ x * q + q = suc-mul x q in
    let size : suc x * q + q - suc x * q ≡ x * q + q - x * q = omega arith in
    let from : suc x * q ≡ length row + x * q = omega arith in
    rw (size, from, drop-append-add row (concat rows) (x * q))
    (row_lies q rows x (All-tail (λ r. length r ≡ q) row rows h) (omega arith))

-- what is put behind them is the row of a key's product
pub product_lies : (q : ℕ) (phi : ℕ → ℕ) (rows : List (List ℕ)) (key : ℕ × ℕ)
    → All (λ row. length row ≡ q) rows → key.0 < length rows → phi key.1 < length rows
    → concat rows ++ product_in q (concat rows) key.0 (phi key.1)
    ≡ concat (rows ++ row_by phi rows key ∷ [])
product_lies q phi rows key h l m =
    ap (λ (r : List ℕ). concat rows ++ r)
    (ap₂ (λ (f g : List ℕ). map (slice_index f) g) (row_lies q rows key.0 h l)
    (row_lies q rows (phi key.1) h m)
    ∙ sym (append-nil (row_by phi rows key)))
    ∙ sym (concat-append rows (row_by phi rows key ∷ []))

-- the rows by one key more
pub one_key_more : (phi : ℕ → ℕ) (rows : List (List ℕ)) (keys : List (ℕ × ℕ)) (i : ℕ)
    → i < length keys
    → rows_by phi (take (i + 1) keys) rows
    ≡ rows_by phi (take i keys) rows
    ++ row_by phi (rows_by phi (take i keys) rows) (get_or keys i (0, 0)) ∷ []
one_key_more phi rows keys i l =
    ap (λ ks. rows_by phi ks rows) (take_more keys i (0, 0) l)
    ∙ fold-append (λ (made : List (List ℕ)) (key : ℕ × ℕ). made ++ row_by phi made key ∷ []) rows
    (take i keys) (get_or keys i (0, 0) ∷ [])

-- entry y of row x
pub flat_entry : (q : ℕ) (rows : List (List ℕ)) (x y : ℕ) → All (λ row. length row ≡ q) rows
    → x < length rows → y < q
    → get_or (concat rows) (x * q + y) 0 ≡ get_or (get_or rows x []) y 0
flat_entry q rows x y h l b =
    sym (get_or-take (x * q + q - x * q) (drop (x * q) (concat rows)) y 0 (omega arith)
    ∙ get_or-drop (x * q) (concat rows) y 0)
    ∙ ap (λ (row : List ℕ). get_or row y 0) (row_lies q rows x h l)
