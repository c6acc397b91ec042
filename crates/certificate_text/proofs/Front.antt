-- The lines up to the period, read and written.
-- Line by line: what is read is their text, and their text is read.
use Rattle.std.proofs.Common.{◌≡◌, ℕ, ◌+◌, ◌-◌, ◌<◌, ◌≤◌, List, ◌∷◌, ◌++◌, Some, refl, arith, codes, ap, subst, ◌∙◌, ap₂}
use Rattle.std.specs.Fmt.{decimal}
use Rattle.std.proofs.lemmas.Option.{some_pair_parts}
use Rattle.std.proofs.lemmas.Bool.{eqb-true, eq-eqb}
use Rattle.misere_theory.specs.declared.TheConstants.{LARGEST_ORDER, MOST_ENTRIES, LARGEST_PART}
use Rattle.misere_theory.specs.Certificates.{IsCode, format_by}
use Rattle.octal_code.specs.Text.{code_text}
use Rattle.certificate_text.specs.Reading.{least_period, numbers_at, front_at}
use Rattle.certificate_text.proofs.Numbers.{bind_some, test_some, fixed_again, fixed_then, behind, some_is}
use Rattle.certificate_text.proofs.Codes.{code_line_takes, code_line_again}
use Rattle.certificate_text.proofs.Fields.{field_takes, field_again}
use Rattle.std.proofs.lemmas.Bool.Decides.{nat_tests}

-- ---- the lines up to the period

abbrev pub field_text : List ℕ → ℕ → List ℕ → List ℕ
field_text name x rest = name ++ (32 ∷ (decimal x ++ 10 ∷ rest))

abbrev pub numbers_text : List ℕ → ℕ → ℕ → ℕ → List ℕ → List ℕ
numbers_text code order start period rest =
    codes "code "
    ++ (code_text code
    ++ (10 ∷ field_text (codes "order") order
    (field_text (codes "start") start (field_text (codes "period") period rest))))

abbrev pub front_text : List ℕ → ℕ → ℕ → ℕ → List ℕ → List ℕ
front_text code order start period rest =
    field_text (codes "mqc") (format_by code order start period)
    (numbers_text code order start period rest)

-- a format is 1, 2 or 3
pub format_in : (code : List ℕ) (order start period : ℕ) → (1 ≤ format_by code order start period)
    × (format_by code order start period < 4)
format_in code order start period = (grind (arith, nat_tests), grind (arith, nat_tests))

pub record FrontFits (code : List ℕ) (order start period : ℕ) : Type 0 where
  pub code_fits : IsCode code
  pub order_from : 2 ≤ order
  pub order_below : order < LARGEST_ORDER + 1
  pub start_from : 1 ≤ start
  pub start_below : start < MOST_ENTRIES + 2
  pub period_from : least_period start ≤ period
  pub period_below : period < MOST_ENTRIES + 2 - start

pub numbers_take : (bytes : List ℕ) (f : List ℕ × ℕ × ℕ × ℕ) (rest : List ℕ)
    → numbers_at bytes ≡ Some (f, rest) → (bytes ≡ numbers_text f.0 f.1 f.2 f.3 rest)
    × FrontFits f.0 f.1 f.2 f.3
unfolding numbers_at
numbers_take bytes f rest e =
    let named = fixed_then _ _ e in
    let code = bind_some named.2 in
    let order = bind_some code.2 in
    let start = bind_some order.2 in
    let period = bind_some start.2 in
    let ct = code_line_takes _ _ _ code.1 in
    let ot = field_takes _ _ _ _ _ _ (omega arith) (omega arith) order.1 in
    let st = field_takes _ _ _ _ _ _ (omega arith) (omega arith) start.1 in
    let below : start.0.0 < MOST_ENTRIES + 2 = st.2 in
    let pt = field_takes _ _ _ _ _ _ (omega arith) (omega arith) period.1 in
    let p = some_pair_parts _ _ _ _ period.2 in
    rw (← p.0) (
      behind (codes "code ") named.1 (ct.0 ∙ ap (λ (t : List ℕ). code_text code.0.0 ++ (10 ∷ t))
          (ot.0 ∙ ap (field_text (codes "order") order.0.0)
          (st.0 ∙ ap (field_text (codes "start") start.0.0)
          (pt.0 ∙ ap (field_text (codes "period") period.0.0) p.1)))),
      record {
        code_fits = ct.1;
        order_from = ot.1;
        order_below = ot.2;
        start_from = st.1;
        start_below = st.2;
        period_from = pt.1;
        period_below = pt.2;
      },
    )

pub numbers_again : (code : List ℕ) (order start period : ℕ) (rest : List ℕ)
    → FrontFits code order start period → numbers_at (numbers_text code order start period rest)
    ≡ Some ((code, order, start, period), rest)
unfolding numbers_at
numbers_again code order start period rest fits =
    let period_ : List ℕ = field_text (codes "period") period rest in
    let start_ : List ℕ = field_text (codes "start") start period_ in
    let order_ : List ℕ = field_text (codes "order") order start_ in
    rw (
      fixed_again (codes "code ") (code_text code ++ (10 ∷ order_)),
      code_line_again code order_ fits.code_fits,
      field_again (codes "order") 2 (LARGEST_ORDER + 1) order start_ (omega arith) fits.order_from
          fits.order_below,
      field_again (codes "start") 1 (MOST_ENTRIES + 2) start period_ (omega arith) fits.start_from
          fits.start_below,
      field_again (codes "period") (least_period start) (MOST_ENTRIES + 2 - start) period rest (omega arith)
          fits.period_from fits.period_below,
    ) refl

-- which periods may stand beside a start
pub period_by : (start period : ℕ) → 1 ≤ start → least_period start ≤ period
    → (2 ≤ start + period) × (period ≡ 0 → start ≤ LARGEST_PART + 1)
period_by start period some least = (grind (arith, nat_tests), λ e. grind (arith, nat_tests))

pub least_of : (start period : ℕ) → 1 ≤ start → 2 ≤ start + period
    → (period ≡ 0 → start ≤ LARGEST_PART + 1) → least_period start ≤ period
least_of start period some two part = grind (arith, nat_tests)

pub front_takes : (bytes : List ℕ) (f : List ℕ × ℕ × ℕ × ℕ) (rest : List ℕ)
    → front_at bytes ≡ Some (f, rest) → (bytes ≡ front_text f.0 f.1 f.2 f.3 rest)
    × FrontFits f.0 f.1 f.2 f.3
unfolding front_at
front_takes bytes f rest e =
    let format = bind_some e in
    let at_ = field_takes _ _ _ _ _ _ (omega arith) (omega arith) format.1 in
    let front = bind_some format.2 in
    let t = test_some front.2 in
    let nt = numbers_take _ _ _ front.1 in
    let same = eqb-true format.0.0 (format_by front.0.0.0 front.0.0.1 front.0.0.2 front.0.0.3) t.0 in
    subst (λ (g : (List ℕ × ℕ × ℕ × ℕ) × List ℕ).
    (bytes ≡ front_text g.0.0 g.0.1 g.0.2 g.0.3 g.1) × FrontFits g.0.0 g.0.1 g.0.2 g.0.3)
    (some_is t.1) (at_.0 ∙ ap₂ (field_text (codes "mqc")) same nt.0, nt.1)

pub front_again : (code : List ℕ) (order start period : ℕ) (rest : List ℕ)
    → FrontFits code order start period → front_at (front_text code order start period rest)
    ≡ Some ((code, order, start, period), rest)
unfolding front_at
front_again code order start period rest fits =
    let format = format_in code order start period in
    rw (
      field_again (codes "mqc") 1 4 (format_by code order start period)
          (numbers_text code order start period rest) (omega arith) format.0 format.1,
      numbers_again code order start period rest fits,
      eq-eqb (format_by code order start period) (format_by code order start period) refl,
    ) refl
