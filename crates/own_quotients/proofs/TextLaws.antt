-- Tables are read as they are spelled.
-- Line by line: what is read is their text, and their text is read.
use Rattle.std.proofs.Common.{◌≡◌, ℕ, zero, suc, ◌+◌, ◌-◌, ◌*◌, ◌^◌, ◌<◌, ◌≤◌, List, [], ◌∷◌, ◌++◌, map, length, take, drop, Some, refl, sym, ap, ◌∙◌, arith, codes, All, add-one, length-drop}
use Rattle.std.proofs.Math.Nat.{suc-mul}
use Rattle.std.specs.Fmt.{decimal}
use Rattle.std.specs.List.{AllByRecursion, concat}
use Rattle.std.proofs.lemmas.List.{append-nil, length-take-le, take-append-drop}
use Rattle.std.proofs.lemmas.Option.{some_pair_parts}
use Rattle.std.proofs.lemmas.List.Elements.{All-from_recursion, recursion_from_All, All-take, All-drop, All-append}
use Rattle.octal_code.specs.Text.{code_text}
use Rattle.certificate_text.specs.Spelling.{text}
use Rattle.certificate_text.specs.Reading.{rows_of}
use Rattle.certificate_text.proofs.Numbers.{bind_some, fixed_again, fixed_then, fixed_takes, behind}
use Rattle.certificate_text.proofs.Words.{numbers_reader, line_takes, line_again}
use Rattle.certificate_text.proofs.Fields.{RisesFrom, portion_takes, portion_again}
use Rattle.certificate_text.proofs.Counts.{rises_below, rises_increasing, increasing_rises}
use Rattle.certificate_text.proofs.Front.{FrontFits, numbers_text, numbers_take, numbers_again, period_by, least_of}
use Rattle.certificate_text.proofs.Rows.{rows_text, RowFits, rows_take, rows_again}
use Rattle.certificate_text.proofs.Lists.{line_text}
use Rattle.certificate_text.proofs.Grouped.{text_then_is, rows_then}
use Rattle.certificate.proofs.Rows.{rows_count}
use Rattle.own_quotients.specs.Tables.{Own, IsOwn}
use Rattle.own_quotients.specs.Texts.{table_lines, SpellsTable}
use Rattle.own_quotients.specs.Reading.{own_at, own_lists_at, own_of}

-- the whole text, and then the rest
abbrev lists_text : Own → List ℕ → List ℕ
lists_text o rest =
    codes "table 1\n"
    ++ numbers_text o.code o.order o.start o.period
    (line_text (codes "heaps") (map decimal o.heaps)
    (line_text (codes "portion") (map decimal o.portion) rest))

abbrev own_text : Own → List ℕ → List ℕ
own_text o rest =
    lists_text o (rows_text (rows_of o.order o.order o.rows) (codes "end\n" ++ rest))

-- what the lines fit
record ListsFit (o : Own) : Type 0 where
  front : FrontFits o.code o.order o.start o.period
  heaps : (length o.heaps ≡ o.start + o.period - 1) × AllByRecursion (λ x. x < o.order) o.heaps
  portion : (1 ≤ length o.portion) × RisesFrom 0 o.order o.portion

abbrev TableFits : Own → Type 0
TableFits o =
    (length (rows_of o.order o.order o.rows) ≡ o.order)
    × AllByRecursion (RowFits o.order) (rows_of o.order o.order o.rows)
    × (length o.rows ≡ o.order * o.order)
    × (concat (rows_of o.order o.order o.rows) ≡ o.rows)

lists_take : (bytes : List ℕ) (l : (List ℕ × ℕ × ℕ × ℕ) × List ℕ × List ℕ) (rest : List ℕ)
    → own_lists_at bytes ≡ Some (l, rest)
    → (bytes ≡ lists_text (own_of l []) rest) × ListsFit (own_of l [])
unfolding own_lists_at
lists_take bytes l rest e =
    let named = fixed_then (codes "table 1\n") bytes e in
    let front = bind_some named.2 in
    let ft = numbers_take _ _ _ front.1 in
    let heaps = bind_some front.2 in
    let portion = bind_some heaps.2 in
    let p = some_pair_parts _ _ _ _ portion.2 in
    let low : 0 < front.0.0.1 = omega (arith, ft.1.order_from) in
    let small : front.0.0.1 ≤ 2 ^ 16 = omega (arith, ft.1.order_below) in
    let ht = line_takes (numbers_reader _ low small) _ _ _ _ _ heaps.1 in
    let pt = portion_takes _ _ _ _ low small portion.1 in
    rw (← p.0) (
      behind (codes "table 1\n") named.1 (ft.0
          ∙ ap (numbers_text front.0.0.0 front.0.0.1 front.0.0.2 front.0.0.3)
          (ht.0 ∙ ap (line_text (codes "heaps") (map decimal heaps.0.0))
          (pt.0 ∙ ap (line_text (codes "portion") (map decimal portion.0.0)) p.1))),
      record { front = ft.1; heaps = (ht.1, ht.2); portion = (pt.1, pt.2) },
    )

own_takes : (bytes : List ℕ) (o : Own) (rest : List ℕ) → own_at bytes ≡ Some (o, rest)
    → (bytes ≡ own_text o rest) × ListsFit o × TableFits o
unfolding own_at
own_takes bytes o rest e =
    let lists = bind_some e in
    let lt = lists_take _ _ _ lists.1 in
    let rows = bind_some lists.2 in
    let ended = bind_some rows.2 in
    let et = fixed_takes _ _ _ ended.1 in
    let p = some_pair_parts _ _ _ _ ended.2 in
    let low : 0 < lists.0.0.0.1 = omega (arith, lt.1.front.order_from) in
    let small : lists.0.0.0.1 ≤ 2 ^ 16 = omega (arith, lt.1.front.order_below) in
    let rt = rows_take _ _ _ _ _ low small rows.1 in
    rw (← p.0) (
      lt.0 ∙ ap (lists_text (own_of lists.0.0 [])) (rt.0
          ∙ ap (rows_text (rows_of lists.0.0.0.1 lists.0.0.0.1 rows.0.0))
          (et ∙ ap (λ (t : List ℕ). codes "end\n" ++ t) p.1)),
      record { front = lt.1.front; heaps = lt.1.heaps; portion = lt.1.portion },
      (rt.1, rt.2, rt.3, rt.4),
    )

own_again : (o : Own) (rest : List ℕ) → ListsFit o → TableFits o
    → own_at (own_text o rest) ≡ Some (o, rest)
unfolding own_at own_lists_at
own_again o rest fits table =
    let low : 0 < o.order = omega (arith, fits.front.order_from) in
    let small : o.order ≤ 2 ^ 16 = omega (arith, fits.front.order_below) in
    let rows_ : List ℕ = rows_text (rows_of o.order o.order o.rows) (codes "end\n" ++ rest) in
    let portion_ : List ℕ = line_text (codes "portion") (map decimal o.portion) rows_ in
    let heaps_ : List ℕ = line_text (codes "heaps") (map decimal o.heaps) portion_ in
    let long : length (rows_of o.order o.order o.rows) ≡ o.order = table.0 in
    rw (
      fixed_again (codes "table 1\n") (numbers_text o.code o.order o.start o.period heaps_),
      numbers_again o.code o.order o.start o.period heaps_ fits.front,
      line_again (numbers_reader o.order low small) (codes "heaps") (o.start + o.period - 1) o.heaps
          portion_ fits.heaps.0 fits.heaps.1,
      portion_again o.order o.portion rows_ small fits.portion.0 fits.portion.1,
      rw (long, table.3) at (rows_again o.order (rows_of o.order o.order o.rows)
          (codes "end\n" ++ rest) low small table.1),
      fixed_again (codes "end\n") rest,
    ) refl

-- ---- the lines are this text

text_is : (o : Own) (rest : List ℕ) → text (table_lines o) ++ rest ≡ own_text o rest
text_is o rest =
    text_then_is (table_lines o) rest
    ∙ rw (
      append-nil (code_text o.code),
      append-nil (decimal o.order),
      append-nil (decimal o.start),
      append-nil (decimal o.period),
      rows_then (rows_of o.order o.order o.rows) (record { name = codes "end"; words = [] } ∷ []) rest,
    ) refl

-- ---- ranges

flat_below : (order : ℕ) (rows : List (List ℕ)) → AllByRecursion (RowFits order) rows
    → All (λ x. x < order) (concat rows)
flat_below order [] fits = All-from_recursion (λ x. x < order) [] tt
flat_below order (row ∷ rows) fits =
    All-append (λ x. x < order) row (concat rows)
    (All-from_recursion (λ x. x < order) row fits.0.1) (flat_below order rows fits.1)

module _ (o : Own) (lists : ListsFit o) (table : TableFits o) where
  own_of_fits : IsOwn o
  own_of_fits =
      let f = lists.front in
      let p = period_by o.start o.period f.start_from f.period_from in
      record {
        code = f.code_fits;
        order = (f.order_from, omega (arith, f.order_below));
        start = f.start_from;
        period = (p.0, omega (arith, f.start_below, f.period_below));
        part = p.1;
        heaps = (
          omega (arith, lists.heaps.0, f.start_from),
          All-from_recursion (λ x. x < o.order) o.heaps lists.heaps.1,
        );
        portion = (
          lists.portion.0,
          All-from_recursion (λ x. x < o.order) o.portion
              (rises_below 0 o.order o.portion lists.portion.1),
          λ k h. rw add-one (rises_increasing 0 o.order o.portion lists.portion.1 k (omega arith)),
        );
        rows = (
          table.2,
          rw table.3 at (flat_below o.order (rows_of o.order o.order o.rows) table.1),
        );
      }

-- rows are cut from a list of so many numbers
cut_fits : (order n : ℕ) (xs : List ℕ) → length xs ≡ n * order → All (λ x. x < order) xs
    → AllByRecursion (RowFits order) (rows_of order n xs)
    × (concat (rows_of order n xs) ≡ xs)
cut_fits order zero [] e all = (tt, refl)
cut_fits order zero (x ∷ xs) e all = absurd (omega arith)
cut_fits order (suc n) xs e all =
    let more : suc n * order ≡ order + n * order = suc-mul n order ∙ omega arith in
    let later = cut_fits order n (drop order xs) (length-drop order xs ∙ omega arith)
    (All-drop (λ x. x < order) order xs all) in (
      (
        (
          length-take-le order xs (omega arith),
          recursion_from_All (λ x. x < order) (take order xs)
              (All-take (λ x. x < order) order xs all),
        ),
        later.0,
      ),
      ap (λ (t : List ℕ). take order xs ++ t) later.1 ∙ take-append-drop order xs,
    )

module _ (o : Own) (h : IsOwn o) where
  rises : RisesFrom 0 o.order o.portion
  rises =
      increasing_rises 0 o.order o.portion (λ some. omega arith)
      (recursion_from_All (λ x. x < o.order) o.portion h.portion.1)
      (λ k lt. let e : k + 1 ≡ suc k = omega arith in
      rw e at (h.portion.2 k (omega arith)))

  lists_fit : ListsFit o
  lists_fit = record {
    front = record {
      code_fits = h.code;
      order_from = h.order.0;
      order_below = omega (arith, h.order.1);
      start_from = h.start;
      start_below = omega (arith, h.period.1);
      period_from = least_of o.start o.period h.start h.period.0 h.part;
      period_below = omega (arith, h.start, h.period.1);
    };
    heaps = (omega (arith, h.heaps.0), recursion_from_All (λ x. x < o.order) o.heaps h.heaps.1);
    portion = (h.portion.0, rises);
  }

  table_fits : TableFits o
  table_fits =
      let cut = cut_fits o.order o.order o.rows h.rows.0 h.rows.1 in
      (rows_count o.order o.order o.rows, cut.0, h.rows.0, cut.1)

-- ---- the three clauses

pub own_is : (b : List ℕ) (o : Own) (rest : List ℕ) → own_at b ≡ Some (o, rest) → IsOwn o
own_is b o rest e = let t = own_takes b o rest e in own_of_fits o t.1 t.2

pub spelled_takes : (b : List ℕ) (o : Own) → own_at b ≡ Some (o, []) → SpellsTable b o
spelled_takes b o e =
    let t = own_takes b o [] e in
    record {
      in_ranges = own_of_fits o t.1 t.2;
      bytes = t.0 ∙ sym (text_is o []) ∙ append-nil (text (table_lines o));
    }

pub spelled_again : (b : List ℕ) (o : Own) → SpellsTable b o → own_at b ≡ Some (o, [])
spelled_again b o s =
    rw (s.bytes, ← append-nil (text (table_lines o)), text_is o [])
    (own_again o [] (lists_fit o s.in_ranges) (table_fits o s.in_ranges))
