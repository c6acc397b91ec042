-- The whole text: what is read is spelled so, and what is spelled so is read.
-- Reading gives one answer, and so bytes spell one certificate, and no text begins another.
use Rattle.std.proofs.Common.{◌≡◌, ℕ, ◌+◌, ◌<◌, ◌≤◌, ◌==◌, nat_le, true, false, cond, ◌⊎◌, List, [], ◌∷◌, ◌++◌, length, Some, None, refl, sym, ap, ◌∙◌, inl, inr, arith, codes, le-leb, leb-true, length-append}
use Rattle.std.specs.Fmt.{decimal}
use Rattle.std.proofs.lemmas.Bool.{cases_Bool, cond-true, cond-false, eqb-true, eqb-false}
use Rattle.std.proofs.lemmas.List.{append-nil}
use Rattle.std.proofs.lemmas.Option.{some_pair_parts}
use Rattle.std.proofs.lemmas.Fmt.{decimal_digit}
use Rattle.misere_theory.specs.Certificates.{Certificate, InRanges, format_of}
use Rattle.compact_certificates.specs.Rows.{firsts_of}
use Rattle.compact_certificates.specs.Compact.{HasTable, IsCompact, compacted, expanded}
use Rattle.compact_certificates.proofs.Firsts.{told_by_test, test_told}
use Rattle.compact_certificates.proofs.Back.{comes_back, left_compact}
use Rattle.compact_certificates.proofs.Expanding.{made_table, made_apart, made_follows, left_again}
use Rattle.certificate_text.specs.declared.TheConstants.{LONGEST_TEXT}
use Rattle.certificate_text.specs.Spelling.{text, lines, IsWritable, Spells}
use Rattle.certificate_text.specs.Reading.{◌>>=◌, lists_at, table_at, first_rows_at, certificate_at}
use Rattle.certificate_text.proofs.Numbers.{bind_some, test_some}
use Rattle.certificate_text.proofs.Front.{numbers_text}
use Rattle.certificate_text.proofs.Lists.{behind_front, lists_text, bare, ListsFit, limits_of, lists_take, lists_again}
use Rattle.certificate_text.proofs.Tables.{RowsFit, table_text, table_takes, table_again, first_rows_text, first_rows_take, first_rows_again}
use Rattle.certificate_text.proofs.Ranges.{rows_all, all_rows, rows_in, ranges_of, lists_fit, table_fits}
use Rattle.certificate_text.proofs.Grouped.{text_then, table_lines, text_is, full_text, first_text}

-- ---- reading, by the format

-- the lists are read, and then all of the table
record ReadsAll (l : Certificate) (behind : List ℕ) (c : Certificate) (rest : List ℕ)
    : Type 0 where
  full : (format_of l == 3) ≡ false
  table : table_at l behind ≡ Some (c, rest)

-- the lists are read, and then the first rows of a text that isn't too long
record ReadsFirst (bytes : List ℕ) (l : Certificate) (behind : List ℕ) (c : Certificate)
    (rest : List ℕ) : Type 0 where
  third : (format_of l == 3) ≡ true
  table : first_rows_at l behind ≡ Some (c, rest)
  short : length bytes ≤ LONGEST_TEXT + length rest

by_format : (bytes : List ℕ) (l : Certificate) (behind : List ℕ) (c : Certificate)
    (rest : List ℕ)
    → cond (format_of l == 3)
    (first_rows_at l behind >>= λ made.
    cond (nat_le (length bytes) (LONGEST_TEXT + length made.1)) (Some made) None)
    (table_at l behind)
    ≡ Some (c, rest)
    → ReadsAll l behind c rest ⊎ ReadsFirst bytes l behind c rest
by_format bytes l behind c rest e = elim (cases_Bool (format_of l == 3)) [
  | inl third ↦
      let made = bind_some (sym (cond-true _ _ _ third) ∙ e) in
      let t = test_some made.2 in
      let same = some_pair_parts _ _ _ _ t.1 in
      inr (record {
        third = third;
        table = made.1 ∙ t.1;
        short = rw (← same.1) (leb-true _ _ t.0);
      })
  | inr full ↦
      inl (record { full = full; table = sym (cond-false _ _ _ full) ∙ e })
]

read_by_parts : (bytes : List ℕ) (c : Certificate) (rest : List ℕ)
    → certificate_at bytes ≡ Some (c, rest)
    → (l : Certificate) × (behind : List ℕ) × (lists_at bytes ≡ Some (l, behind))
    × (ReadsAll l behind c rest ⊎ ReadsFirst bytes l behind c rest)
unfolding certificate_at
read_by_parts bytes c rest e =
    let lists = bind_some e in (
      lists.0.0,
      lists.0.1,
      lists.1,
      by_format bytes lists.0.0 lists.0.1 c rest lists.2,
    )

reads_all : (bytes : List ℕ) (l : Certificate) (behind : List ℕ) (c : Certificate)
    (rest : List ℕ) → lists_at bytes ≡ Some (l, behind) → ReadsAll l behind c rest
    → certificate_at bytes ≡ Some (c, rest)
unfolding certificate_at
reads_all bytes l behind c rest e r = rw (e, r.full, r.table) refl

reads_first : (bytes : List ℕ) (l : Certificate) (behind : List ℕ) (c : Certificate)
    (rest : List ℕ) → lists_at bytes ≡ Some (l, behind) → ReadsFirst bytes l behind c rest
    → certificate_at bytes ≡ Some (c, rest)
unfolding certificate_at
reads_first bytes l behind c rest e r =
    rw (e, r.third, r.table, le-leb (length bytes) (LONGEST_TEXT + length rest) r.short) refl

-- ---- what is read is spelled so

abbrev IsSaid : List ℕ → Certificate → List ℕ → Type 0
IsSaid bytes c rest = IsWritable c × (bytes ≡ text (lines c) ++ rest)

all_said : (bytes : List ℕ) (l : Certificate) (behind : List ℕ) (c : Certificate)
    (rest : List ℕ) → bytes ≡ lists_text l behind → ListsFit l
    → ReadsAll l behind c rest → IsSaid bytes c rest
all_said bytes l behind c rest e fits r =
    let limits = limits_of l.code l.order l.start l.period fits.front in
    let t = table_takes l behind c rest limits.low limits.small r.table in
    let made : Certificate = record l { rows = t.0; apart = t.1 } in
    let has = rows_in l.order t.0 t.1 t.4 in
    let not_third = eqb-false _ _ r.full in
    rw (← t.2) (
      record {
        in_ranges = ranges_of l t.0 t.1 fits has.0 has.1;
        follows = λ third. absurd (not_third third);
        short = λ third. absurd (not_third third);
      },
      e ∙ ap (lists_text l) t.3 ∙ sym (full_text made rest r.full),
    )

first_said : (bytes : List ℕ) (l : Certificate) (behind : List ℕ) (c : Certificate)
    (rest : List ℕ) → bytes ≡ lists_text l behind → ListsFit l → l.apart ≡ []
    → ReadsFirst bytes l behind c rest → IsSaid bytes c rest
first_said bytes l behind c rest e fits none r =
    let limits = limits_of l.code l.order l.start l.period fits.front in
    let t = first_rows_take l behind c rest limits.low limits.small r.table in
    let k : Certificate = record l { rows = t.0 } in
    let count : length l.words + 1 ≡ l.order =
    let low = limits.low in let words = fits.words.0 in omega arith in
    let compact : IsCompact k =
    record {
      words = count;
      expandable = told_by_test k count t.4;
      rows = (t.3.0, rows_all l.order t.0 t.3.1);
      apart = none;
    } in
    let again = left_again k compact in
    let said : bytes ≡ text (lines (expanded k)) ++ rest =
    e ∙ ap (lists_text l) (t.2 ∙ ap (λ (x : Certificate). first_rows_text x.rows rest) (sym again))
    ∙ sym (first_text (expanded k) rest r.third) in
    let long = ap length said ∙ length-append (text (lines (expanded k))) rest in
    rw (← t.1) (
      record {
        in_ranges =
            ranges_of l (expanded k).rows (expanded k).apart fits (made_table k compact).rows
            (made_apart k compact);
        follows = λ third. made_follows k compact;
        short = λ third. let s = r.short in omega arith;
      },
      said,
    )

pub certificate_takes : (bytes : List ℕ) (c : Certificate) (rest : List ℕ)
    → certificate_at bytes ≡ Some (c, rest) → IsWritable c × (bytes ≡ text (lines c) ++ rest)
certificate_takes bytes c rest e =
    let p = read_by_parts bytes c rest e in
    let l = lists_take bytes p.0 p.1 p.2 in
    elim p.3 [
      | inl r ↦ all_said bytes p.0 p.1 c rest l.0 l.1 r
      | inr r ↦ first_said bytes p.0 p.1 c rest l.0 l.1 l.2 r
    ]

-- ---- what is spelled so is read

all_again : (c : Certificate) (rest : List ℕ) → InRanges c → (format_of c == 3) ≡ false
    → certificate_at (text (lines c) ++ rest) ≡ Some (c, rest)
all_again c rest h full =
    let fits = lists_fit c h in
    let limits = limits_of c.code c.order c.start c.period fits.front in
    let behind : List ℕ = table_text c.rows c.apart rest in
    reads_all (text (lines c) ++ rest) (bare c) behind c rest
    (ap lists_at (full_text c rest full) ∙ lists_again c behind fits)
    (record {
      full = full;
      table = table_again (bare c) c.rows c.apart rest limits.low limits.small (table_fits c h);
    })

first_again : (c : Certificate) (rest : List ℕ) → IsWritable c → (format_of c == 3) ≡ true
    → certificate_at (text (lines c) ++ rest) ≡ Some (c, rest)
first_again c rest w third =
    let h = w.in_ranges in
    let is_third = eqb-true _ _ third in
    let f = w.follows is_third in
    let table : HasTable c = record { words = h.words.0; rows = h.rows } in
    let fits = lists_fit c h in
    let limits = limits_of c.code c.order c.start c.period fits.front in
    let left = left_compact c table f in
    let behind : List ℕ = first_rows_text (compacted c).rows rest in
    let rows_fit : RowsFit c.order (firsts_of c.words) (compacted c).rows =
    (left.rows.0, all_rows c.order (compacted c).rows left.rows.1) in
    let short = w.short is_third in
    let long = length-append (text (lines c)) rest in
    reads_first (text (lines c) ++ rest) (bare c) behind c rest
    (ap lists_at (first_text c rest third) ∙ lists_again c behind fits)
    (record {
      third = third;
      table =
          first_rows_again (bare c) (compacted c).rows rest limits.low limits.small rows_fit
          (test_told c h.words.0 f.expandable)
          ∙ ap (λ (x : Certificate). Some (x, rest)) (comes_back c table f);
      short = omega arith;
    })

pub certificate_again : (c : Certificate) (rest : List ℕ) → IsWritable c
    → certificate_at (text (lines c) ++ rest) ≡ Some (c, rest)
certificate_again c rest w = elim (cases_Bool (format_of c == 3)) [
  | inl third ↦ first_again c rest w third
  | inr full ↦ all_again c rest w.in_ranges full
]

-- ---- the laws

pub spelled_takes : (b : List ℕ) (c : Certificate) → certificate_at b ≡ Some (c, []) → Spells b c
spelled_takes b c e =
    let t = certificate_takes b c [] e in
    record { writable = t.0; bytes = t.1 ∙ append-nil (text (lines c)) }

pub spelled_again : (b : List ℕ) (c : Certificate) → Spells b c → certificate_at b ≡ Some (c, [])
spelled_again b c p =
    ap certificate_at (p.bytes ∙ sym (append-nil (text (lines c))))
    ∙ certificate_again c [] p.writable

pub one_value : (b : List ℕ) (c d : Certificate) → Spells b c → Spells b d → c ≡ d
one_value b c d p q =
    (some_pair_parts _ _ _ _ (sym (spelled_again b c p) ∙ spelled_again b d q)).0

pub no_beginning : (a x : List ℕ) (c d : Certificate) → Spells a c → Spells (a ++ x) d → x ≡ []
no_beginning a x c d p q =
    let e : certificate_at (a ++ x) ≡ Some (c, x) =
    ap (λ (t : List ℕ). certificate_at (t ++ x)) p.bytes ∙ certificate_again c x p.writable in
    (some_pair_parts _ _ _ _ (sym e ∙ spelled_again (a ++ x) d q)).1

pub begins_with_format : (b : List ℕ) (c : Certificate) (format : ℕ) → Spells b c
    → format_of c ≡ format → format < 10
    → (x : List ℕ) × (b ≡ codes "mqc" ++ (32 ∷ (48 + format) ∷ 10 ∷ x))
begins_with_format b c format p e l =
    let digit : decimal (format_of c) ≡ (48 + format) ∷ [] = ap decimal e ∙ decimal_digit format l in
    let behind : List ℕ = behind_front c (text_then (table_lines c (format_of c == 3)) []) in (
      numbers_text c.code c.order c.start c.period behind,
      p.bytes ∙ sym (append-nil (text (lines c))) ∙ text_is c []
          ∙ ap (λ (ds : List ℕ). codes "mqc" ++ (32 ∷ (ds ++ (10 ∷ numbers_text c.code c.order
          c.start c.period behind)))) digit,
    )
