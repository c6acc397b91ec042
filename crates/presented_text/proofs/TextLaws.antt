-- Presentations are read as they are spelled.
-- Line by line: what is read is their text, and their text is read.
use Rattle.std.proofs.Common.{◌≡◌, ℕ, zero, suc, ◌+◌, ◌<◌, ◌≤◌, List, [], ◌∷◌, ◌++◌, map, length, Some, None, refl, sym, ap, ◌∙◌, append_assoc, inl, inr, arith, codes}
use Rattle.std.specs.Fmt.{decimal}
use Rattle.std.specs.List.{AllByRecursion}
use Rattle.std.proofs.lemmas.List.{append-nil}
use Rattle.std.proofs.lemmas.Option.{some_pair_parts}
use Rattle.misere_theory.specs.Games.{IsCode}
use Rattle.octal_code.specs.Text.{code_text}
use Rattle.certificate_text.specs.Spelling.{Line, text, key_word}
use Rattle.certificate_text.specs.Reading.{otherwise, fixed_at}
use Rattle.certificate_text.proofs.Numbers.{bind_some, fixed_takes, fixed_then, fixed_again, behind}
use Rattle.certificate_text.proofs.Codes.{code_line_takes, code_line_again}
use Rattle.certificate_text.proofs.Fields.{otherwise_some}
use Rattle.certificate_text.proofs.Lists.{line_text}
use Rattle.certificate_text.proofs.Grouped.{text_then, text_then_is}
use Rattle.presented_text.specs.Spelled.{spelled}
use Rattle.presented_text.specs.declared.TheConstants.{MOST_HEAPS, MOST_ITEMS, MOST_GENERATORS}
use Rattle.presented_text.specs.Said.{PresentedSaid, IsInRanges}
use Rattle.presented_text.specs.Spelling.{heap_word, heaps_words, relation_line, presented_lines, SpellsPresented}
use Rattle.presented_text.specs.Reading.{positive_at, front_at, said_at}
use Rattle.presented_text.proofs.ListLaws.{IsReaderBefore, IsLow, signed, while_takes, while_again, some_takes, some_again, exact_takes, exact_again}
use Rattle.presented_text.proofs.Lines.{IsPositive, positive_reader, word_reader, heap_word_reader, pair_text, relation_reader, cycle_reader}

-- ---- the lines up to the heaps

abbrev period_text : ℕ → List ℕ
period_text zero = []
period_text (suc p) = codes " period " ++ decimal (suc p)

abbrev front_text : List ℕ → ℕ → ℕ → List ℕ → List ℕ
front_text code heaps period rest =
    codes "mqp 1\ncode "
    ++ (code_text code
    ++ (10 ∷ (codes "heaps " ++ (decimal heaps ++ (period_text period ++ 10 ∷ rest)))))

record FrontFits (code : List ℕ) (heaps period : ℕ) : Type 0 where
  code_fits : IsCode code
  heaps_fit : IsPositive (MOST_HEAPS + 1) heaps
  period_below : period < heaps + 1

period_some : (p : ℕ) → 1 ≤ p → period_text p ≡ codes " period " ++ decimal p
period_some zero le = absurd (omega (arith, le))
period_some (suc p) le = refl

heaps_reader : IsReaderBefore decimal (IsPositive (MOST_HEAPS + 1)) IsLow (positive_at (MOST_HEAPS + 1))
heaps_reader = positive_reader (MOST_HEAPS + 1) (omega arith) (omega arith)

period_takes : (heaps : ℕ) → heaps < MOST_HEAPS + 1 → (bytes : List ℕ) (p : ℕ) (rest : List ℕ)
    → otherwise (fixed_at (codes " period ") bytes) (Some (0, bytes)) (positive_at (heaps + 1))
    ≡ Some (p, rest)
    → (bytes ≡ period_text p ++ rest) × (p < heaps + 1)
period_takes heaps most bytes p rest e =
    elim (otherwise_some (fixed_at (codes " period ") bytes) (Some (0, bytes)) (positive_at (heaps + 1))
    (p, rest) e) [
      | inl none ↦ let q = some_pair_parts 0 p bytes rest none.1 in rw (← q.0) (q.1, omega arith)
      | inr some ↦
          let t = (positive_reader (heaps + 1) (omega arith) (omega (arith, most))).takes some.0 p rest some.2 in (
            behind (codes " period ") (fixed_takes _ _ _ some.1) t.0
                ∙ sym (append_assoc (codes " period ") (decimal p) rest)
                ∙ ap (λ (x : List ℕ). x ++ rest) (sym (period_some p t.1.0)),
            t.1.1,
          )
    ]

no_period : (rest : List ℕ) → fixed_at (codes " period ") (10 ∷ rest) ≡ None
unfolding fixed_at
no_period rest = refl

ended_low : (rest : List ℕ) → IsLow (10 ∷ rest)
ended_low rest = record { first = 10; more = rest; is = refl; low = omega arith }

period_again : (heaps : ℕ) → heaps < MOST_HEAPS + 1 → (p : ℕ) (rest : List ℕ) → p < heaps + 1
    → otherwise (fixed_at (codes " period ") (period_text p ++ 10 ∷ rest))
    (Some (0, period_text p ++ 10 ∷ rest)) (positive_at (heaps + 1))
    ≡ Some (p, 10 ∷ rest)
period_again heaps most zero rest below = rw (no_period rest) refl
period_again heaps most (suc p) rest below =
    rw (
      append_assoc (codes " period ") (decimal (suc p)) (10 ∷ rest),
      fixed_again (codes " period ") (decimal (suc p) ++ 10 ∷ rest),
    )
    ((positive_reader (heaps + 1) (omega arith) (omega (arith, most))).again (suc p) (10 ∷ rest)
    (omega arith, below) (ended_low rest))

front_takes : (bytes : List ℕ) (f : List ℕ × ℕ × ℕ) (rest : List ℕ)
    → front_at bytes ≡ Some (f, rest)
    → (bytes ≡ front_text f.0 f.1 f.2 rest) × FrontFits f.0 f.1 f.2
unfolding front_at
front_takes bytes f rest e =
    let named = fixed_then _ _ e in
    let code = bind_some named.2 in
    let ct = code_line_takes _ _ _ code.1 in
    let counted = fixed_then _ _ code.2 in
    let heaps = bind_some counted.2 in
    let ht = heaps_reader.takes counted.0 heaps.0.0 heaps.0.1 heaps.1 in
    let period = bind_some heaps.2 in
    let pt = period_takes heaps.0.0 ht.1.1 heaps.0.1 period.0.0 period.0.1 period.1 in
    let ended = fixed_then _ _ period.2 in
    let p = some_pair_parts (code.0.0, heaps.0.0, period.0.0) f ended.0 rest ended.2 in
    rw (← p.0) (
      behind (codes "mqp 1\ncode ") named.1
          (ct.0 ∙ ap (λ (t : List ℕ). code_text code.0.0 ++ (10 ∷ t))
          (behind (codes "heaps ") counted.1
          (ht.0 ∙ ap (λ (t : List ℕ). decimal heaps.0.0 ++ t)
          (pt.0 ∙ ap (λ (t : List ℕ). period_text period.0.0 ++ t)
          (behind (10 ∷ []) ended.1 p.1))))),
      record { code_fits = ct.1; heaps_fit = ht.1; period_below = pt.1 },
    )

period_low : (p : ℕ) (rest : List ℕ) → IsLow (period_text p ++ 10 ∷ rest)
period_low zero rest = ended_low rest
period_low (suc p) rest = record {
  first = 32;
  more = (codes "period " ++ decimal (suc p)) ++ 10 ∷ rest;
  is = refl;
  low = omega arith;
}

front_again : (code : List ℕ) (heaps period : ℕ) (rest : List ℕ) → FrontFits code heaps period
    → front_at (front_text code heaps period rest) ≡ Some ((code, heaps, period), rest)
unfolding front_at
front_again code heaps period rest fits =
    let period_ : List ℕ = period_text period ++ 10 ∷ rest in
    let heaps_ : List ℕ = codes "heaps " ++ (decimal heaps ++ period_) in
    rw (
      fixed_again (codes "mqp 1\ncode ") (code_text code ++ (10 ∷ heaps_)),
      code_line_again code heaps_ fits.code_fits,
      fixed_again (codes "heaps ") (decimal heaps ++ period_),
      heaps_reader.again heaps period_ fits.heaps_fit (period_low period rest),
      period_again heaps fits.heaps_fit.1 period rest fits.period_below,
      fixed_again (10 ∷ []) rest,
    ) refl

-- ---- all lines

abbrev relations_text : List (List ℕ × List ℕ) → List ℕ → List ℕ
relations_text rs rest = signed (codes "relation ") (map pair_text rs) ++ rest

abbrev last_text : PresentedSaid → List ℕ → List ℕ
last_text c rest =
    line_text (codes "cycle") (map key_word c.cycles)
    (line_text (codes "portion") (map spelled c.portion) (codes "end\n" ++ rest))

abbrev whole_text : PresentedSaid → List ℕ → List ℕ
whole_text c rest =
    front_text c.code c.heaps c.period
    (line_text (codes "letters") (map decimal c.letters)
    (line_text (codes "words") (map heap_word c.words) (relations_text c.relations (last_text c rest))))

line_of : (r : List ℕ × List ℕ) (rest : List ℕ)
    → line_text (codes "relation") (spelled r.0 ∷ spelled r.1 ∷ []) rest
    ≡ codes "relation " ++ (pair_text r ++ rest)
line_of r rest =
    rw (
      append-nil (spelled r.1),
      append_assoc (spelled r.0) (32 ∷ spelled r.1) (10 ∷ rest),
      append_assoc (spelled r.0) (32 ∷ (spelled r.1 ++ 10 ∷ [])) rest,
      append_assoc (spelled r.1) (10 ∷ []) rest,
    ) refl

relations_then : (rs : List (List ℕ × List ℕ)) (ls : List Line) (rest : List ℕ)
    → text_then (map relation_line rs ++ ls) rest ≡ relations_text rs (text_then ls rest)
relations_then [] ls rest = refl
relations_then (r ∷ rs) ls rest =
    let after = signed (codes "relation ") (map pair_text rs) in
    ap (line_text (codes "relation") (spelled r.0 ∷ spelled r.1 ∷ [])) (relations_then rs ls rest)
    ∙ line_of r (after ++ text_then ls rest)
    ∙ ap (λ (t : List ℕ). codes "relation " ++ t)
    (sym (append_assoc (pair_text r) after (text_then ls rest)))
    ∙ sym (append_assoc (codes "relation ") (pair_text r ++ after) (text_then ls rest))

heaps_then : (heaps period : ℕ) (rest : List ℕ)
    → line_text (codes "heaps") (heaps_words heaps period) rest
    ≡ codes "heaps " ++ (decimal heaps ++ (period_text period ++ 10 ∷ rest))
heaps_then heaps zero rest = rw (append-nil (decimal heaps)) refl
heaps_then heaps (suc p) rest =
    rw (
      append-nil (decimal (suc p)),
      append_assoc (decimal heaps) (codes " period " ++ decimal (suc p)) (10 ∷ rest),
    ) refl

last_lines : PresentedSaid → List Line
last_lines c =
    record { name = codes "cycle"; words = map key_word c.cycles }
    ∷ record { name = codes "portion"; words = map spelled c.portion }
    ∷ record { name = codes "end"; words = [] }
    ∷ []

text_is : (c : PresentedSaid) (rest : List ℕ) → text (presented_lines c) ++ rest ≡ whole_text c rest
unfolding last_lines
text_is c rest =
    let words_ : List ℕ =
    line_text (codes "letters") (map decimal c.letters)
    (line_text (codes "words") (map heap_word c.words)
    (text_then (map relation_line c.relations ++ last_lines c) rest)) in
    text_then_is (presented_lines c) rest
    ∙ rw (append-nil (code_text c.code), heaps_then c.heaps c.period words_)
    (ap (λ (t : List ℕ). front_text c.code c.heaps c.period
    (line_text (codes "letters") (map decimal c.letters)
    (line_text (codes "words") (map heap_word c.words) t))) (relations_then c.relations (last_lines c) rest))

-- ---- the laws

at_most : (x m : ℕ) → x < m + 1 → x ≤ m
at_most x m below = omega (arith, below)

positive_most : (m : ℕ) (xs : List ℕ) → AllByRecursion (IsPositive (m + 1)) xs
    → AllByRecursion (λ h. (1 ≤ h) × (h ≤ m)) xs
positive_most m [] all = tt
positive_most m (x ∷ xs) all = (
  (all.0.0, let below : x < m + 1 = all.0.1 in omega (arith, below)),
  positive_most m xs all.1,
)

most_positive : (m : ℕ) (xs : List ℕ) → AllByRecursion (λ h. (1 ≤ h) × (h ≤ m)) xs
    → AllByRecursion (IsPositive (m + 1)) xs
most_positive m [] all = tt
most_positive m (x ∷ xs) all = (
  (all.0.0, let most : x ≤ m = all.0.1 in omega (arith, most)),
  most_positive m xs all.1,
)

pub said_takes : (bytes : List ℕ) (c : PresentedSaid) (rest : List ℕ)
    → said_at bytes ≡ Some (c, rest) → (bytes ≡ whole_text c rest) × IsInRanges c
unfolding said_at
said_takes bytes c rest e =
    let front = bind_some e in
    let letters = bind_some front.2 in
    let words = bind_some letters.2 in
    let relations = bind_some words.2 in
    let cycles = bind_some relations.2 in
    let portion = bind_some cycles.2 in
    let ended = fixed_then _ _ portion.2 in
    let ft = front_takes _ _ _ front.1 in
    let lt = some_takes heaps_reader (codes "letters") MOST_GENERATORS _ _ _ letters.1 in
    let wt = exact_takes heap_word_reader (codes "words") front.0.0.1 _ _ _ words.1 in
    let rt_ = while_takes relation_reader (codes "relation ") MOST_ITEMS _ _ _ relations.1 in
    let ct = exact_takes cycle_reader (codes "cycle") (length letters.0.0) _ _ _ cycles.1 in
    let pt = some_takes word_reader (codes "portion") MOST_ITEMS _ _ _ portion.1 in
    let made : PresentedSaid =
    record {
      code = front.0.0.0;
      heaps = front.0.0.1;
      period = front.0.0.2;
      letters = letters.0.0;
      words = words.0.0;
      relations = relations.0.0;
      cycles = cycles.0.0;
      portion = portion.0.0;
    }
    in
    let p = some_pair_parts made c ended.0 rest ended.2 in
    rw (← p.0) (
      ft.0 ∙ ap (front_text made.code made.heaps made.period)
          (lt.0 ∙ ap (line_text (codes "letters") (map decimal made.letters))
          (wt.0 ∙ ap (line_text (codes "words") (map heap_word made.words))
          (rt_.0 ∙ ap (relations_text made.relations)
          (ct.0 ∙ ap (line_text (codes "cycle") (map key_word made.cycles))
          (pt.0 ∙ ap (line_text (codes "portion") (map spelled made.portion))
          (ended.1 ∙ ap (λ (t : List ℕ). codes "end\n" ++ t) p.1)))))),
      record {
        code = ft.1.code_fits;
        heaps = (ft.1.heaps_fit.0, at_most made.heaps MOST_HEAPS ft.1.heaps_fit.1);
        period = at_most made.period made.heaps ft.1.period_below;
        letters = (lt.1, positive_most MOST_HEAPS made.letters lt.2);
        words = (wt.1, wt.2);
        relations = (rt_.1, rt_.2);
        cycles = (ct.1, ct.2);
        portion = (pt.1, pt.2);
      },
    )

no_relation : (c : PresentedSaid) (rest : List ℕ)
    → fixed_at (codes "relation ") (last_text c rest) ≡ None
unfolding fixed_at
no_relation c rest = refl

said_again : (c : PresentedSaid) (rest : List ℕ) → IsInRanges c
    → said_at (whole_text c rest) ≡ Some (c, rest)
unfolding said_at
said_again c rest h =
    let end_ : List ℕ = codes "end\n" ++ rest in
    let portion_ : List ℕ = line_text (codes "portion") (map spelled c.portion) end_ in
    let last_ : List ℕ = last_text c rest in
    let relations_ : List ℕ = relations_text c.relations last_ in
    let words_ : List ℕ = line_text (codes "words") (map heap_word c.words) relations_ in
    let letters_ : List ℕ = line_text (codes "letters") (map decimal c.letters) words_ in
    rw (
      front_again c.code c.heaps c.period letters_
          (record {
            code_fits = h.code;
            heaps_fit = (h.heaps.0, omega (arith, h.heaps.1));
            period_below = omega (arith, h.period);
          }),
      some_again heaps_reader (codes "letters") MOST_GENERATORS c.letters words_ h.letters.0
          (most_positive MOST_HEAPS c.letters h.letters.1),
      exact_again heap_word_reader (codes "words") c.heaps c.words relations_ h.words.0 h.words.1,
      while_again relation_reader (codes "relation ") (λ ws t next. tt) MOST_ITEMS c.relations last_
          h.relations.0 h.relations.1 tt (no_relation c rest),
      exact_again cycle_reader (codes "cycle") (length c.letters) c.cycles portion_ h.cycles.0
          h.cycles.1,
      some_again word_reader (codes "portion") MOST_ITEMS c.portion end_ h.portion.0 h.portion.1,
      fixed_again (codes "end\n") rest,
    ) refl

pub spelled_takes : (b : List ℕ) (c : PresentedSaid) → said_at b ≡ Some (c, [])
    → SpellsPresented b c
spelled_takes b c e =
    let t = said_takes b c [] e in
    record {
      in_ranges = t.1;
      bytes = t.0 ∙ sym (text_is c []) ∙ append-nil (text (presented_lines c));
    }

pub spelled_again : (b : List ℕ) (c : PresentedSaid) → SpellsPresented b c
    → said_at b ≡ Some (c, [])
spelled_again b c p =
    ap said_at (p.bytes ∙ sym (append-nil (text (presented_lines c))) ∙ text_is c [])
    ∙ said_again c [] p.in_ranges

pub one_value : (b : List ℕ) (c d : PresentedSaid) → SpellsPresented b c → SpellsPresented b d
    → c ≡ d
one_value b c d p q =
    (some_pair_parts _ _ _ _ (sym (spelled_again b c p) ∙ spelled_again b d q)).0
