-- Claims are read as they are spelled.
-- Line by line: what is read is their text, and their text is read.
use Rattle.std.proofs.Common.{◌≡◌, ℕ, ◌+◌, ◌-◌, ◌<◌, ◌≤◌, List, [], ◌∷◌, ◌++◌, map, length, Some, refl, sym, ap, ◌∙◌, arith, codes}
use Rattle.std.specs.Fmt.{decimal}
use Rattle.std.specs.List.{AllByRecursion}
use Rattle.std.proofs.lemmas.List.{append-nil}
use Rattle.std.proofs.lemmas.Option.{some_pair_parts}
use Rattle.misere_theory.specs.Games.{IsCode}
use Rattle.octal_code.specs.Text.{code_text}
use Rattle.certificate_text.specs.Spelling.{text}
use Rattle.certificate_text.specs.Reading.{number_at}
use Rattle.certificate_text.proofs.Numbers.{bind_some, fixed_again, fixed_then, behind}
use Rattle.certificate_text.proofs.Codes.{code_line_takes, code_line_again}
use Rattle.certificate_text.proofs.Words.{IsReader, numbers_reader, line_takes, line_again}
use Rattle.certificate_text.proofs.Fields.{field_takes, field_again}
use Rattle.certificate_text.proofs.Front.{field_text}
use Rattle.certificate_text.proofs.Lists.{line_text}
use Rattle.certificate_text.proofs.Grouped.{text_then_is}
use Rattle.dominance_text.specs.declared.TheConstants.{MOST_LABELS, LARGEST_WEIGHT}
use Rattle.dominance_text.specs.Said.{DominanceSaid, AreLabels, IsInRanges}
use Rattle.dominance_text.specs.Spelling.{dominance_lines, SpellsDominance}
use Rattle.dominance_text.specs.Reading.{front_at, labels_at, said_of, said_at}

-- ---- the lines up to the rise

abbrev front_text : List ℕ → ℕ → ℕ → ℕ → List ℕ → List ℕ
front_text code start period rise rest =
    codes "mqw 1\ncode "
    ++ (code_text code
    ++ (10 ∷ field_text (codes "start") start
    (field_text (codes "period") period (field_text (codes "rise") rise rest))))

record FrontFits (code : List ℕ) (start period rise : ℕ) : Type 0 where
  code_fits : IsCode code
  start_from : 1 ≤ start
  start_below : start < MOST_LABELS + 1
  period_from : 1 ≤ period
  period_below : period < MOST_LABELS + 2 - start
  rise_from : 1 ≤ rise
  rise_below : rise < LARGEST_WEIGHT + 1

front_takes : (bytes : List ℕ) (f : List ℕ × ℕ × ℕ × ℕ) (rest : List ℕ)
    → front_at bytes ≡ Some (f, rest)
    → (bytes ≡ front_text f.0 f.1 f.2 f.3 rest) × FrontFits f.0 f.1 f.2 f.3
unfolding front_at
front_takes bytes f rest e =
    let named = fixed_then _ _ e in
    let code = bind_some named.2 in
    let ct = code_line_takes _ _ _ code.1 in
    let start = bind_some code.2 in
    let st = field_takes _ _ _ _ _ _ (omega arith) (omega arith) start.1 in
    let below : start.0.0 < MOST_LABELS + 1 = st.2 in
    let period = bind_some start.2 in
    let pt = field_takes _ _ _ _ _ _ (omega arith) (omega arith) period.1 in
    let rise = bind_some period.2 in
    let rt = field_takes _ _ _ _ _ _ (omega arith) (omega arith) rise.1 in
    let p = some_pair_parts _ _ _ _ rise.2 in
    rw (← p.0) (
      behind (codes "mqw 1\ncode ") named.1 (ct.0 ∙ ap (λ (t : List ℕ). code_text code.0.0 ++ (10 ∷ t))
          (st.0 ∙ ap (field_text (codes "start") start.0.0)
          (pt.0 ∙ ap (field_text (codes "period") period.0.0)
          (rt.0 ∙ ap (field_text (codes "rise") rise.0.0) p.1)))),
      record {
        code_fits = ct.1;
        start_from = st.1;
        start_below = st.2;
        period_from = pt.1;
        period_below = pt.2;
        rise_from = rt.1;
        rise_below = rt.2;
      },
    )

front_again : (code : List ℕ) (start period rise : ℕ) (rest : List ℕ)
    → FrontFits code start period rise
    → front_at (front_text code start period rise rest) ≡ Some ((code, start, period, rise), rest)
unfolding front_at
front_again code start period rise rest fits =
    let rise_ : List ℕ = field_text (codes "rise") rise rest in
    let period_ : List ℕ = field_text (codes "period") period rise_ in
    let start_ : List ℕ = field_text (codes "start") start period_ in
    rw (
      fixed_again (codes "mqw 1\ncode ") (code_text code ++ (10 ∷ start_)),
      code_line_again code start_ fits.code_fits,
      field_again (codes "start") 1 (MOST_LABELS + 1) start period_ (omega arith) fits.start_from
          fits.start_below,
      field_again (codes "period") 1 (MOST_LABELS + 2 - start) period rise_ (omega arith)
          fits.period_from fits.period_below,
      field_again (codes "rise") 1 (LARGEST_WEIGHT + 1) rise rest (omega arith) fits.rise_from
          fits.rise_below,
    ) refl

-- ---- the lines of numbers

bits : IsReader ℕ decimal (λ x. x < 2) (number_at 2)
bits = numbers_reader 2 (omega arith) (omega arith)

counts : IsReader ℕ decimal (λ x. x < LARGEST_WEIGHT + 1) (number_at (LARGEST_WEIGHT + 1))
counts = numbers_reader (LARGEST_WEIGHT + 1) (omega arith) (omega arith)

abbrev numbers_text : List ℕ → List ℕ → List ℕ → List ℕ
numbers_text name xs rest = line_text name (map decimal xs) rest

abbrev labels_text : List ℕ → List ℕ → List ℕ → List ℕ → List ℕ
labels_text odd weights leads rest =
    numbers_text (codes "odd") odd
    (numbers_text (codes "weights") weights (numbers_text (codes "leads") leads rest))

abbrev LineFits : ℕ → ℕ → List ℕ → Type 0
LineFits count limit xs = (length xs ≡ count) × AllByRecursion (λ x. x < limit) xs

record LabelsFit (count : ℕ) (odd weights leads : List ℕ) : Type 0 where
  odd_fits : LineFits count 2 odd
  weights_fit : LineFits count (LARGEST_WEIGHT + 1) weights
  leads_fit : LineFits count (LARGEST_WEIGHT + 1) leads

labels_take : (count : ℕ) (bytes : List ℕ) (l : List ℕ × List ℕ × List ℕ) (rest : List ℕ)
    → labels_at count bytes ≡ Some (l, rest)
    → (bytes ≡ labels_text l.0 l.1 l.2 rest) × LabelsFit count l.0 l.1 l.2
unfolding labels_at
labels_take count bytes l rest e =
    let odd = bind_some e in
    let weights = bind_some odd.2 in
    let leads = bind_some weights.2 in
    let p = some_pair_parts _ _ _ _ leads.2 in
    let ot = line_takes bits _ _ _ _ _ odd.1 in
    let wt = line_takes counts _ _ _ _ _ weights.1 in
    let lt = line_takes counts _ _ _ _ _ leads.1 in
    rw (← p.0) (
      ot.0 ∙ ap (numbers_text (codes "odd") odd.0.0)
          (wt.0 ∙ ap (numbers_text (codes "weights") weights.0.0)
          (lt.0 ∙ ap (numbers_text (codes "leads") leads.0.0) p.1)),
      record {
        odd_fits = (ot.1, ot.2);
        weights_fit = (wt.1, wt.2);
        leads_fit = (lt.1, lt.2);
      },
    )

labels_again : (count : ℕ) (odd weights leads rest : List ℕ) → LabelsFit count odd weights leads
    → labels_at count (labels_text odd weights leads rest) ≡ Some ((odd, weights, leads), rest)
unfolding labels_at
labels_again count odd weights leads rest fits =
    let leads_ : List ℕ = numbers_text (codes "leads") leads rest in
    let weights_ : List ℕ = numbers_text (codes "weights") weights leads_ in
    rw (
      line_again bits (codes "odd") count odd weights_ fits.odd_fits.0 fits.odd_fits.1,
      line_again counts (codes "weights") count weights leads_ fits.weights_fit.0 fits.weights_fit.1,
      line_again counts (codes "leads") count leads rest fits.leads_fit.0 fits.leads_fit.1,
    ) refl

-- ---- all lines

abbrev whole_text : DominanceSaid → List ℕ → List ℕ
whole_text c rest =
    front_text c.code c.start c.period c.rise
    (labels_text c.odd c.weights c.leads (codes "end\n" ++ rest))

text_is : (c : DominanceSaid) (rest : List ℕ) → text (dominance_lines c) ++ rest ≡ whole_text c rest
text_is c rest =
    text_then_is (dominance_lines c) rest
    ∙ rw (
      append-nil (code_text c.code),
      append-nil (decimal c.start),
      append-nil (decimal c.period),
      append-nil (decimal c.rise),
    ) refl

-- ---- ranges

below_at_most : (most : ℕ) (xs : List ℕ) → AllByRecursion (λ x. x < most + 1) xs
    → AllByRecursion (λ x. x ≤ most) xs
below_at_most most [] all = tt
below_at_most most (x ∷ xs) all =
    (let below : x < most + 1 = all.0 in omega arith, below_at_most most xs all.1)

at_most_below : (most : ℕ) (xs : List ℕ) → AllByRecursion (λ x. x ≤ most) xs
    → AllByRecursion (λ x. x < most + 1) xs
at_most_below most [] all = tt
at_most_below most (x ∷ xs) all =
    (let within : x ≤ most = all.0 in omega arith, at_most_below most xs all.1)

labels_of : (start period most : ℕ) (xs : List ℕ) → 1 ≤ start
    → LineFits (start + period - 1) (most + 1) xs → AreLabels start period most xs
labels_of start period most xs from fits =
    let long = fits.0 in
    record { count = omega arith; within = below_at_most most xs fits.1 }

line_of : (start period most : ℕ) (xs : List ℕ) → AreLabels start period most xs
    → LineFits (start + period - 1) (most + 1) xs
line_of start period most xs labels =
    let long = labels.count in
    (omega arith, at_most_below most xs labels.within)

ranges_of : (c : DominanceSaid) → FrontFits c.code c.start c.period c.rise
    → LabelsFit (c.start + c.period - 1) c.odd c.weights c.leads → IsInRanges c
ranges_of c f l = record {
  code = f.code_fits;
  start = f.start_from;
  period = f.period_from;
  heaps = omega (arith, f.start_below, f.period_below);
  rise = (f.rise_from, omega (arith, f.rise_below));
  odd = labels_of c.start c.period 1 c.odd f.start_from l.odd_fits;
  weights = labels_of c.start c.period LARGEST_WEIGHT c.weights f.start_from l.weights_fit;
  leads = labels_of c.start c.period LARGEST_WEIGHT c.leads f.start_from l.leads_fit;
}

front_fits : (c : DominanceSaid) → IsInRanges c → FrontFits c.code c.start c.period c.rise
front_fits c h = record {
  code_fits = h.code;
  start_from = h.start;
  start_below = omega (arith, h.period, h.heaps);
  period_from = h.period;
  period_below = omega (arith, h.start, h.heaps);
  rise_from = h.rise.0;
  rise_below = omega (arith, h.rise.1);
}

labels_fit : (c : DominanceSaid) → IsInRanges c
    → LabelsFit (c.start + c.period - 1) c.odd c.weights c.leads
labels_fit c h = record {
  odd_fits = line_of c.start c.period 1 c.odd h.odd;
  weights_fit = line_of c.start c.period LARGEST_WEIGHT c.weights h.weights;
  leads_fit = line_of c.start c.period LARGEST_WEIGHT c.leads h.leads;
}

-- ---- the laws

pub said_takes : (bytes : List ℕ) (c : DominanceSaid) (rest : List ℕ)
    → said_at bytes ≡ Some (c, rest) → (bytes ≡ whole_text c rest) × IsInRanges c
unfolding said_at
said_takes bytes c rest e =
    let front = bind_some e in
    let labels = bind_some front.2 in
    let ended = fixed_then _ _ labels.2 in
    let ft = front_takes _ _ _ front.1 in
    let lt = labels_take _ _ _ _ labels.1 in
    let made : DominanceSaid = said_of front.0.0 labels.0.0 in
    let p = some_pair_parts made c ended.0 rest ended.2 in
    rw (← p.0) (
      ft.0 ∙ ap (front_text made.code made.start made.period made.rise)
          (lt.0 ∙ ap (labels_text made.odd made.weights made.leads)
          (ended.1 ∙ ap (λ (t : List ℕ). codes "end\n" ++ t) p.1)),
      ranges_of made ft.1 lt.1,
    )

said_again : (c : DominanceSaid) (rest : List ℕ) → IsInRanges c
    → said_at (whole_text c rest) ≡ Some (c, rest)
unfolding said_at
said_again c rest h =
    let end_ : List ℕ = codes "end\n" ++ rest in
    rw (
      front_again c.code c.start c.period c.rise (labels_text c.odd c.weights c.leads end_)
          (front_fits c h),
      labels_again (c.start + c.period - 1) c.odd c.weights c.leads end_ (labels_fit c h),
      fixed_again (codes "end\n") rest,
    ) refl

pub spelled_takes : (b : List ℕ) (c : DominanceSaid) → said_at b ≡ Some (c, []) → SpellsDominance b c
spelled_takes b c e =
    let t = said_takes b c [] e in
    record {
      in_ranges = t.1;
      bytes = t.0 ∙ sym (text_is c []) ∙ append-nil (text (dominance_lines c));
    }

pub spelled_again : (b : List ℕ) (c : DominanceSaid) → SpellsDominance b c → said_at b ≡ Some (c, [])
spelled_again b c p =
    ap said_at (p.bytes ∙ sym (append-nil (text (dominance_lines c))) ∙ text_is c [])
    ∙ said_again c [] p.in_ranges

pub one_value : (b : List ℕ) (c d : DominanceSaid) → SpellsDominance b c → SpellsDominance b d → c ≡ d
one_value b c d p q =
    (some_pair_parts _ _ _ _ (sym (spelled_again b c p) ∙ spelled_again b d q)).0
