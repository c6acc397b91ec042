-- The ranges of a certificate's numbers, and what its lines are read by.
use Rattle.std.proofs.Common.{◌≡◌, ℕ, ◌+◌, ◌<◌, List, length, sym, ◌∙◌, arith, All, add-one, suc}
use Rattle.std.specs.List.{AllByRecursion}
use Rattle.std.proofs.lemmas.List.Elements.{All-from_recursion, recursion_from_All}
use Rattle.misere_theory.specs.Certificates.{Certificate, InRanges, pairs_from}
use Rattle.compact_certificates.proofs.Made.{IsRow}
use Rattle.certificate_text.proofs.Words.{KeyFits}
use Rattle.certificate_text.proofs.Fields.{RisesFrom}
use Rattle.certificate_text.proofs.Rows.{RowFits}
use Rattle.certificate_text.proofs.Counts.{pairs_count, rises_below, rises_increasing, increasing_rises}
use Rattle.certificate_text.proofs.Front.{period_by, least_of}
use Rattle.certificate_text.proofs.Lists.{ListsFit}
use Rattle.certificate_text.proofs.Tables.{TableFits}

pub rows_all : (order : ℕ) (rows : List (List ℕ)) → AllByRecursion (RowFits order) rows
    → All (IsRow order) rows
rows_all order rows h =
    let all = All-from_recursion (RowFits order) rows h in
    λ i d l. ((all i d l).0, All-from_recursion (λ x. x < order) _ (all i d l).1)

pub all_rows : (order : ℕ) (rows : List (List ℕ)) → All (IsRow order) rows
    → AllByRecursion (RowFits order) rows
all_rows order rows all =
    recursion_from_All (RowFits order) rows
    (λ i d l. ((all i d l).0, recursion_from_All (λ x. x < order) _ (all i d l).1))

-- the rows and separators as the ranges have them
abbrev pub HasRows : ℕ → List (List ℕ) → Type 0
HasRows order rows = (length rows ≡ order) × All (IsRow order) rows

abbrev pub HasApart : ℕ → List ℕ → Type 0
HasApart order apart =
    (length apart ≡ length (pairs_from 0 order)) × All (λ x. x < order) apart

pub rows_in : (order : ℕ) (rows : List (List ℕ)) (apart : List ℕ) → TableFits order rows apart
    → HasRows order rows × HasApart order apart
rows_in order rows apart fits = (
  (fits.rows_fit.0, rows_all order rows fits.rows_fit.1),
  (
    fits.apart_fit.0 ∙ pairs_count order,
    All-from_recursion (λ x. x < order) apart fits.apart_fit.1,
  ),
)

pub ranges_of : (l : Certificate) (rows : List (List ℕ)) (apart : List ℕ) → ListsFit l
    → HasRows l.order rows → HasApart l.order apart
    → InRanges (record l { rows = rows; apart = apart })
ranges_of l rows apart fits has_rows has_apart =
    let f = fits.front in
    let o1 = f.order_from in let o2 = f.order_below in let s1 = f.start_from in let s2 =
    f.start_below in let p1 = f.period_from in let p2 = f.period_below in
    record {
      code = f.code_fits;
      order = (omega arith, omega arith);
      start = s1;
      period = ((period_by l.start l.period s1 p1).0, omega arith);
      part = (period_by l.start l.period s1 p1).1;
      phi = (omega (arith, fits.phi.0), All-from_recursion (λ x. x < l.order) l.phi fits.phi.1);
      portion = (
        fits.portion.0,
        All-from_recursion (λ x. x < l.order) l.portion
            (rises_below 0 l.order l.portion fits.portion.1),
        λ k h.
            rw add-one (rises_increasing 0 l.order l.portion fits.portion.1 k (omega arith)),
      );
      words = (
        omega (arith, fits.words.0),
        All-from_recursion (KeyFits l.order (l.start + l.period)) l.words fits.words.1,
      );
      rows = has_rows;
      apart = has_apart;
    }

module _ (c : Certificate) (h : InRanges c) where
  rises : RisesFrom 0 c.order c.portion
  rises =
      increasing_rises 0 c.order c.portion (λ some. omega arith)
      (recursion_from_All (λ x. x < c.order) c.portion h.portion.1)
      (λ k lt. let e : k + 1 ≡ suc k = omega arith in
      rw e at (h.portion.2 k (omega arith)))

  pub lists_fit : ListsFit c
  lists_fit = record {
    front = record {
      code_fits = h.code;
      order_from = h.order.0;
      order_below = omega (arith, h.order.1);
      start_from = h.start;
      start_below = omega (arith, h.period.1);
      period_from = least_of c.start c.period h.start h.period.0 h.part;
      period_below = omega (arith, h.start, h.period.1);
    };
    phi = (omega (arith, h.phi.0), recursion_from_All (λ x. x < c.order) c.phi h.phi.1);
    portion = (h.portion.0, rises);
    words = (
      omega (arith, h.words.0),
      recursion_from_All (KeyFits c.order (c.start + c.period)) c.words h.words.1,
    );
  }

  pub table_fits : TableFits c.order c.rows c.apart
  table_fits = record {
    rows_fit = (h.rows.0, all_rows c.order c.rows h.rows.1);
    apart_fit = (
      h.apart.0 ∙ sym (pairs_count c.order),
      recursion_from_All (λ x. x < c.order) c.apart h.apart.1,
    );
  }
