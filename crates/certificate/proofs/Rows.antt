-- Rows as lists of their own, and one behind the other.
use Rattle.std.proofs.Common.{◌≡◌, ◌<◌, ◌+◌, ◌-◌, ◌*◌, ℕ, zero, suc, List, [], ◌∷◌, ◌++◌, length, take, drop, get_or, All, refl, sym, ap, ap₂, ◌∙◌, subst, arith, length-append, drop-drop}
use Rattle.std.proofs.Math.Nat.{suc-mul}
use Rattle.std.specs.List.{AllByRecursion, concat}
use Rattle.std.proofs.lemmas.List.{get_or_append_left, get_or-append-add, take_at, drop_at}
use Rattle.std.proofs.lemmas.List.Elements.{All-append, All-from_recursion, recursion_from_All}
use Rattle.misere_theory.specs.Certificates.{Certificate, InRanges, claim_of}
use Rattle.monoid_table.specs.Grids.{IsShaped}
use Rattle.monoid_table.specs.PretendingTables.{Agrees}
use Rattle.monoid_table.specs.Pretending.{IsPretending}
use Rattle.certificate_text.specs.Reading.{rows_of}
use Rattle.certificate.specs.Fields.{grid_of, pretending_of}

abbrev pub IsRow : ℕ → List ℕ → Type 0
IsRow order row = (length row ≡ order) × All (λ x. x < order) row

one_row_more : (order x y : ℕ) → suc x * order + y ≡ order + (x * order + y)
one_row_more order x y = ap (λ (k : ℕ). k + y) (suc-mul x order) ∙ omega arith

no_rows : (order : ℕ) → 0 * order ≡ 0
no_rows order = omega arith

no_row_before : (order y : ℕ) → 0 * order + y ≡ y
no_row_before order y = omega arith

-- entry y of row x
pub entry_is : (order : ℕ) (rows : List (List ℕ)) (x y : ℕ) → AllByRecursion (IsRow order) rows
    → x < length rows → y < order
    → get_or (get_or rows x []) y 0 ≡ get_or (concat rows) (x * order + y) 0
entry_is order [] x y fits lx ly = absurd (omega arith)
entry_is order (row ∷ rows) zero y fits lx ly =
    sym (ap (λ (i : ℕ). get_or (row ++ concat rows) i 0) (no_row_before order y)
    ∙ get_or_append_left row (concat rows) 0 y (omega (arith, fits.0.0)))
entry_is order (row ∷ rows) (suc x) y fits lx ly =
    let place : suc x * order + y ≡ length row + (x * order + y) =
    one_row_more order x y ∙ ap (λ (k : ℕ). k + (x * order + y)) (sym fits.0.0) in
    entry_is order rows x y fits.1 (omega arith) ly
    ∙ sym (ap (λ (i : ℕ). get_or (row ++ concat rows) i 0) place
    ∙ get_or-append-add row (concat rows) (x * order + y) 0)

pub length_is : (order : ℕ) (rows : List (List ℕ)) → AllByRecursion (IsRow order) rows
    → length (concat rows) ≡ length rows * order
length_is order [] fits = omega arith
length_is order (row ∷ rows) fits =
    length-append row (concat rows) ∙ ap₂ (λ (i j : ℕ). i + j) fits.0.0
    (length_is order rows fits.1) ∙ sym (suc-mul (length rows) order ∙ omega arith)

pub all_below : (order : ℕ) (rows : List (List ℕ)) → AllByRecursion (IsRow order) rows
    → All (λ x. x < order) (concat rows)
all_below order [] fits = All-from_recursion (λ x. x < order) [] tt
all_below order (row ∷ rows) fits =
    All-append (λ x. x < order) row (concat rows) fits.0.1 (all_below order rows fits.1)

-- rows that lie one behind the other are cut again
pub cut_again : (order : ℕ) (rows : List (List ℕ)) → AllByRecursion (IsRow order) rows
    → rows_of order (length rows) (concat rows) ≡ rows
cut_again order [] fits = refl
cut_again order (row ∷ rows) fits =
    ap₂ (λ (first : List ℕ) (later : List (List ℕ)). first ∷ later)
    (take_at row (concat rows) order fits.0.0)
    (ap (rows_of order (length rows)) (drop_at row (concat rows) order fits.0.0)
    ∙ cut_again order rows fits.1)

pub rows_count : (order n : ℕ) (xs : List ℕ) → length (rows_of order n xs) ≡ n
rows_count order zero xs = refl
rows_count order (suc n) xs = ap suc (rows_count order n (drop order xs))

-- the place of row x
pub row_is : (order : ℕ) (rows : List (List ℕ)) (x : ℕ) → AllByRecursion (IsRow order) rows
    → x < length rows → take order (drop (x * order) (concat rows)) ≡ get_or rows x []
row_is order [] x fits lt = absurd (omega arith)
row_is order (row ∷ rows) zero fits lt =
    ap (λ (i : ℕ). take order (drop i (row ++ concat rows))) (no_rows order)
    ∙ take_at row (concat rows) order fits.0.0
row_is order (row ∷ rows) (suc x) fits lt =
    let place : suc x * order ≡ order + x * order = suc-mul x order ∙ omega arith in
    ap (λ (i : ℕ). take order (drop i (row ++ concat rows))) place
    ∙ ap (take order) (sym (drop-drop (x * order) order (row ++ concat rows))
    ∙ ap (drop (x * order)) (drop_at row (concat rows) order fits.0.0))
    ∙ row_is order rows x fits.1 (omega arith)

width : (n order : ℕ) → n + order - n ≡ order
width n order = omega arith

-- row x, cut from the rows as they lie
pub row_read : (order o : ℕ) (rows : List (List ℕ)) (flat : List ℕ) (x : ℕ) → o ≡ order
    → flat ≡ concat rows → AllByRecursion (IsRow order) rows → x < length rows
    → take (x * o + o - x * o) (drop (x * o) flat) ≡ get_or rows x []
row_read order o rows flat x same lies fits lt =
    ap (λ (n : ℕ). take n (drop (x * o) flat)) (width (x * o) o)
    ∙ ap₂ (λ (n : ℕ) (ys : List ℕ). take n (drop (x * n) ys)) same lies
    ∙ row_is order rows x fits lt

module _ (c : Certificate) (h : InRanges c) where
  pub rows_fit : AllByRecursion (IsRow c.order) c.rows
  rows_fit = recursion_from_All (IsRow c.order) c.rows h.rows.1

  pub agrees : Agrees (claim_of c) (grid_of c) (pretending_of c)
  agrees = record {
    order_is = refl;
    times_is = λ x y lx ly. entry_is c.order c.rows x y rows_fit (omega (arith, h.rows.0)) ly;
    phi_is = λ n some. refl;
  }

  long : length (concat c.rows) ≡ c.order * c.order
  long = length_is c.order c.rows rows_fit ∙ ap (λ (n : ℕ). n * c.order) h.rows.0

  pub shaped : IsShaped c.order (concat c.rows)
  shaped = record {
    positive = omega (arith, h.order.0);
    small = h.order.1;
    length_is = long;
    below = λ i lt. all_below c.order c.rows rows_fit i 0 (subst (λ (n : ℕ). i < n) (sym long) lt);
  }

  pub pretending : IsPretending (pretending_of c)
  pretending =
      record { from_one = h.start; some = h.period.0; short = h.period.1; length_is = h.phi.0 }
