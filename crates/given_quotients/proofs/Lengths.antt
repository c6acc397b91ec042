-- How long the text of a certificate is at most.
use Rattle.std.proofs.Common.{◌≡◌, ◌≢◌, inl, inr, ◌≤◌, ◌<◌, ◌+◌, ◌-◌, ◌*◌, ℕ, zero, suc, List, [], ◌∷◌, ◌++◌, All, ap, subst, refl, arith, length, map, codes, decimal, slice_index, Bool, true, false, if◌then◌else◌}
use Rattle.std.specs.List.Sorted.{IsStrictlyIncreasing}
use Rattle.std.proofs.lemmas.Fmt.{length-decimal-le}
use Rattle.std.proofs.lemmas.List.{length-append, length-map}
use Rattle.std.proofs.lemmas.List.Elements.{All-tail}
use Rattle.std.proofs.lemmas.Nat.{mul-le}
use Rattle.std.proofs.lemmas.Bool.{cases_eq, cases_lt, ne_eqb}
use Rattle.misere_theory.specs.declared.TheConstants.{LARGEST_SECOND_ORDER, MOST_SECOND_ENTRIES}
use Rattle.misere_theory.proofs.Formats.{third_format}
use Rattle.misere_theory.specs.Certificates.{Certificate, InRanges, format_of, pairs_from}
use Rattle.misere_theory.specs.Games.{IsCode}
use Rattle.octal_code.specs.Text.{code_text, digit_byte}
use Rattle.certificate_text.specs.Spelling.{Line, Spells, key_word, lines, row_line, spaced, text}
use Rattle.certificate_text.proofs.Counts.{pairs_count}

-- ---- words

-- a number below ten thousand has at most four digits
short_number : (n : ℕ) → n < 10000 → length (decimal n) ≤ 4
short_number n small = length-decimal-le 4 n (omega arith) (omega (arith, small)) (omega (arith, small))

numbers_width : (q : ℕ) (xs : List ℕ) → q ≤ 10000 → All (λ x. x < q) xs
    → length (spaced (map decimal xs)) ≤ 5 * length xs
numbers_width q [] small all = omega arith
numbers_width q (x ∷ xs) small all =
    let first = short_number x (omega (arith, all 0 0 (omega arith), small)) in
    let others = numbers_width q xs small (All-tail (λ y. y < q) x xs all) in
    let both = length-append (decimal x) (spaced (map decimal xs)) in omega (arith, first, others, both)

keys_width : (q heaps : ℕ) (ks : List (ℕ × ℕ)) → q ≤ 10000 → heaps ≤ 10000
    → All (λ (k : ℕ × ℕ). (k.0 < q) × (1 ≤ k.1) × (k.1 < heaps)) ks
    → length (spaced (map key_word ks)) ≤ 10 * length ks
keys_width q heaps [] small few all = omega arith
keys_width q heaps (k ∷ ks) small few all =
    let first = all 0 k (omega arith) in
    let element = short_number k.0 (omega (arith, first.0, small)) in
    let heap = short_number k.1 (omega (arith, first.2, few)) in
    let word = length-append (decimal k.0) (58 ∷ decimal k.1) in
    let others = keys_width q heaps ks small few
    (All-tail (λ (j : ℕ × ℕ). (j.0 < q) × (1 ≤ j.1) × (j.1 < heaps)) k ks all) in
    let both = length-append (key_word k) (spaced (map key_word ks)) in
    omega (arith, element, heap, word, others, both)

-- ---- lines

-- a line and those behind it
over : (m n : ℕ) (name : List ℕ) (words : List (List ℕ)) (ls : List Line)
    → length name + length (spaced words) + 1 ≤ m → length (text ls) ≤ n
    → length (text (record { name = name; words = words } ∷ ls)) ≤ m + n
over m n name words ls one others =
    let inner = length-append (spaced words) (10 ∷ text ls) in
    let outer = length-append name (spaced words ++ (10 ∷ text ls)) in
    omega (arith, one, others, inner, outer)

-- the line of one number
over_number : (n x : ℕ) (name : List ℕ) (ls : List Line) → length name ≤ 10 → x < 10000
    → length (text ls) ≤ n
    → length (text (record { name = name; words = decimal x ∷ [] } ∷ ls)) ≤ 16 + n
over_number n x name ls short small others =
    let word = short_number x small in
    let both = length-append (decimal x) (spaced []) in
    over 16 n name (decimal x ∷ []) ls (omega (arith, short, word, both)) others

-- the lines of a table
over_rows : (q n : ℕ) (rows : List (List ℕ)) (ls : List Line) → q ≤ 512
    → All (λ (row : List ℕ). (length row ≡ q) × All (λ x. x < q) row) rows → length (text ls) ≤ n
    → length (text (map row_line rows ++ ls)) ≤ 2564 * length rows + n
over_rows q n [] ls small all others = omega (arith, others)
over_rows q n (row ∷ rows) ls small all others =
    let first = all 0 row (omega arith) in
    let width = numbers_width q row (omega (arith, small)) first.1 in
    let below = over_rows q n rows ls small
    (All-tail (λ (r : List ℕ). (length r ≡ q) × All (λ x. x < q) r) row rows all) others in
    let both = over 2564 (2564 * length rows + n) (codes "row") (map decimal row)
    (map row_line rows ++ ls) (omega (arith, width, first.0, small)) below in
    omega (arith, both)

-- ---- how many there are

rising_from : (xs : List ℕ) → IsStrictlyIncreasing xs → (k : ℕ) → k < length xs
    → k ≤ slice_index xs k
rising_from xs up zero within = omega arith
rising_from xs up (suc k) within =
    let before = rising_from xs up k (omega (arith, within)) in
    let next : k + 1 ≡ suc k = omega arith in
    let step = subst (λ i. slice_index xs k < slice_index xs i) next (up k (omega (arith, within)))
    in omega (arith, before, step)

-- rising numbers below a number are no more than it
few_rise : (q : ℕ) (xs : List ℕ) → 1 ≤ length xs → IsStrictlyIncreasing xs → All (λ x. x < q) xs
    → length xs ≤ q
few_rise q xs some up all =
    let last = rising_from xs up (length xs - 1) (omega (arith, some)) in
    let below = all (length xs - 1) 0 (omega (arith, some)) in
    omega (arith, last, below, some)

few_pairs : (q : ℕ) → q ≤ 512 → length (pairs_from 0 q) ≤ 130816
few_pairs q small =
    let product = mul-le q (q - 1) 512 511 small (omega (arith, small)) in
    let count = pairs_count q in omega (arith, product, count)

-- the text of a code has at most eighteen bytes
short_code : (ds : List ℕ) → IsCode ds → length (code_text ds) ≤ 18
short_code [] is = absurd is
short_code (d ∷ ds) is =
    let same = length-map ds digit_byte in omega (arith, is.2, same)

small_format : (third first : Bool) → (if third then 3 else if first then 1 else 2) < 10000
small_format true first = omega arith
small_format false true = omega arith
small_format false false = omega arith

-- ---- the whole text, where it isn't in the third format

not_third_order : (c : Certificate) → format_of c ≢ 3 → c.order ≤ LARGEST_SECOND_ORDER
not_third_order c other = elim (cases_lt LARGEST_SECOND_ORDER c.order) [
  | inl above ↦ absurd (other ((third_format c).1 (inl above)))
  | inr below ↦ below
]

not_third_entries : (c : Certificate) → format_of c ≢ 3
    → c.start + c.period ≤ MOST_SECOND_ENTRIES + 1
not_third_entries c other = elim (cases_lt (MOST_SECOND_ENTRIES + 1) (c.start + c.period)) [
  | inl above ↦ absurd (other ((third_format c).1 (inr above)))
  | inr below ↦ below
]

abbrev behind_rows : Certificate → List Line
behind_rows c = record { name = codes "apart"; words = map decimal c.apart }
    ∷ record { name = codes "end"; words = [] } ∷ []

abbrev behind_words : Certificate → List Line
behind_words c = map row_line c.rows ++ behind_rows c

abbrev behind_portion : Certificate → List Line
behind_portion c = record { name = codes "words"; words = map key_word c.words } ∷ behind_words c

abbrev behind_phi : Certificate → List Line
behind_phi c = record { name = codes "portion"; words = map decimal c.portion } ∷ behind_portion c

-- the lines of the table and of what tells its elements apart
table_within : (c : Certificate) → InRanges c → c.order ≤ 512 → length (text (behind_words c)) ≤ 1980000
table_within c r small =
    let pairs = few_pairs c.order small in
    let width = numbers_width c.order c.apart (omega (arith, small)) r.apart.1 in
    let end = over 8 0 (codes "end") [] [] (omega arith) (omega arith) in
    let apart : length (text (behind_rows c)) ≤ 655008 =
    over 655000 8 (codes "apart") (map decimal c.apart)
    (record { name = codes "end"; words = [] } ∷ [])
    (omega (arith, width, r.apart.0, pairs)) end in
    let rows = over_rows c.order 655008 c.rows (behind_rows c) small r.rows.1 apart in
    omega (arith, rows, r.rows.0, small)

-- the same with those of the portion and the words
back_within : (c : Certificate) → InRanges c → c.order ≤ 512 → length (text (behind_phi c)) ≤ 2000000
back_within c r small =
    let wide : c.order ≤ 10000 = omega (arith, small) in
    let heaps : c.start + c.period ≤ 10000 = omega (arith, r.period.1) in
    let risen = few_rise c.order c.portion r.portion.0 r.portion.2 r.portion.1 in
    let words_width = keys_width c.order (c.start + c.period) c.words wide heaps r.words.1 in
    let portion_width = numbers_width c.order c.portion wide r.portion.1 in
    let words = over 6000 1980000 (codes "words") (map key_word c.words) (behind_words c)
    (omega (arith, words_width, r.words.0, small)) (table_within c r small) in
    let portion = over 3000 1986000 (codes "portion") (map decimal c.portion) (behind_portion c)
    (omega (arith, portion_width, risen, small)) words in
    omega (arith, portion)

abbrev behind_period : Certificate → List Line
behind_period c = record { name = codes "phi"; words = map decimal c.phi } ∷ behind_phi c

abbrev behind_start : Certificate → List Line
behind_start c = record { name = codes "period"; words = decimal c.period ∷ [] } ∷ behind_period c

abbrev behind_order : Certificate → List Line
behind_order c = record { name = codes "start"; words = decimal c.start ∷ [] } ∷ behind_start c

abbrev behind_code : Certificate → List Line
behind_code c = record { name = codes "order"; words = decimal c.order ∷ [] } ∷ behind_order c

abbrev behind_format : Certificate → List Line
behind_format c = record { name = codes "code"; words = code_text c.code ∷ [] } ∷ behind_code c

-- all lines, with all rows and the separators
all_lines : Certificate → List Line
all_lines c = record { name = codes "mqc"; words = decimal (format_of c) ∷ [] } ∷ behind_format c

-- outside the third format they are the text
are_all : (c : Certificate) → format_of c ≢ 3 → lines c ≡ all_lines c
unfolding all_lines
are_all c other = rw (ne_eqb (format_of c) 3 other) refl

-- so it has at most two and a half million bytes
all_within : (c : Certificate) → InRanges c → format_of c ≢ 3 → length (text (all_lines c)) ≤ 2500000
unfolding all_lines
all_within c r other =
    let entries : c.start + c.period ≤ 1025 = not_third_entries c other in
    let small : c.order ≤ 512 = not_third_order c other in
    let width = numbers_width c.order c.phi (omega (arith, small)) r.phi.1 in
    let digits = short_code c.code r.code in
    let code_width = length-append (code_text c.code) (spaced []) in
    let phi = over 6000 2000000 (codes "phi") (map decimal c.phi) (behind_phi c)
    (omega (arith, width, r.phi.0, entries)) (back_within c r small) in
    let period = over_number 2006000 c.period (codes "period") (behind_period c) (omega arith)
    (omega (arith, entries)) phi in
    let start = over_number 2006016 c.start (codes "start") (behind_start c) (omega arith)
    (omega (arith, entries)) period in
    let order = over_number 2006032 c.order (codes "order") (behind_order c) (omega arith)
    (omega (arith, small)) start in
    let code = over 30 2006048 (codes "code") (code_text c.code ∷ []) (behind_code c)
    (omega (arith, digits, code_width)) order in
    let whole = over_number 2006078 (format_of c) (codes "mqc") (behind_format c) (omega arith)
    (small_format _ _) code in
    omega (arith, whole)

-- no certificate has more bytes than are read of one
pub short_texts : (bytes : List ℕ) (c : Certificate) → Spells bytes c → length bytes ≤ 4194304
short_texts bytes c spells =
    let same = ap length spells.bytes in elim (cases_eq (format_of c) 3) [
      | inl third ↦ let within = spells.writable.short third in omega (arith, within, same)
      | inr other ↦
          let within = all_within c spells.writable.in_ranges other in
          let all = ap (λ ls. length (text ls)) (are_all c other) in
          omega (arith, within, all, same)
    ]

-- more bytes spell none
pub long_spells_none : (bytes : List ℕ) → 4194304 < length bytes → (c : Certificate)
    → Spells bytes c → ⊥
long_spells_none bytes long c spells =
    let short = short_texts bytes c spells in absurd (omega (arith, long, short))
