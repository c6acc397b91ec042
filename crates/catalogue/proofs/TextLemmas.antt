-- Certificates are ASCII, and the data of a catalogue has no float.
-- So a certificate is a JSON string, and the text that `serde_json` writes is known.
use Rattle.std.proofs.Common.{◌≡◌, ℕ, suc, ◌+◌, ◌==◌, ◌<◌, ◌≤◌, inl, inr, Bool, true, false, if◌then◌else◌, ◌||◌, List, [], ◌∷◌, ◌++◌, length, map, drop, Option, Some, None, codes, decimal, All, nat_lt, refl, sym, ap, ◌∙◌, arith}
use Rattle.std.specs.Str.{IsAscii, IsUtf8}
use Rattle.std.specs.Io.KnownBytes.{Appends}
use Rattle.std.specs.List.{AllByRecursion}
use Rattle.std.proofs.lemmas.Bool.Decides.{nat_tests}
use Rattle.std.proofs.lemmas.List.Elements.{All-take, All-drop}
use Rattle.std.proofs.lemmas.Str.{IsAscii-append, IsUtf8-from_ascii}
use Rattle.std.proofs.lemmas.Str.Ascii.{IsAscii-nil, IsAscii-cons}
use Rattle.std.proofs.lemmas.Fmt.{IsAscii-decimal}
use Rattle.octal_code.specs.Text.{code_text, digit_byte}
use Rattle.octal_code.proofs.Spelled.{byte_is_ascii}
use Rattle.certificate_text.specs.Spelling.{Line, spaced, text, key_word, row_line, said, lines}
use Rattle.misere_theory.specs.declared.TheConstants.{LARGEST_ORDER, MOST_ENTRIES}
use Rattle.misere_theory.specs.Games.{IsCode, IsFirstDigit}
use Rattle.misere_theory.specs.Certificates.{Certificate, InRanges, format_of}
use Rattle.compact_certificates.specs.Compact.{compacted}
use Rattle.compact_certificates.specs.Rows.{firsts_of}
use Rattle.serde_json.specs.View.{items_of}
use Rattle.serde_json.specs.Written.{has_float, items_have_float}
use Rattle.catalogue.specs.Texts.{entry_data, catalogue_data}

abbrev small_bytes : List ℕ → Bool
small_bytes [] = true
small_bytes (b ∷ bs) = if nat_lt b 128 then small_bytes bs else false

-- a name is ASCII as computing tells
ascii : (bs : List ℕ) → small_bytes bs ≡ true → IsAscii bs
ascii [] e = IsAscii-nil
ascii (b ∷ bs) e = by (nat_lt b 128) refl e (ascii bs)
  where
    by : (t : Bool) → nat_lt b 128 ≡ t → (if t then small_bytes bs else false) ≡ true
        → (small_bytes bs ≡ true → IsAscii bs) → IsAscii (b ∷ bs)
    by true l e more = IsAscii-cons b bs (grind (arith, nat_tests)) (more e)
    by false l e more = absurd (cc)

abbrev IsPlain : Line → Type 0
IsPlain line = IsAscii line.name × AllByRecursion IsAscii line.words

plain : (name : List ℕ) (ws : List (List ℕ)) → small_bytes name ≡ true → AllByRecursion IsAscii ws
    → IsPlain (record { name = name; words = ws })
plain name ws e h = (ascii name e, h)

spaced_ascii : (ws : List (List ℕ)) → AllByRecursion IsAscii ws → IsAscii (spaced ws)
spaced_ascii [] h = IsAscii-nil
spaced_ascii (w ∷ ws) h =
    IsAscii-cons 32 (w ++ spaced ws) (omega arith)
    (IsAscii-append w (spaced ws) h.0 (spaced_ascii ws h.1))

text_ascii : (ls : List Line) → AllByRecursion IsPlain ls → IsAscii (text ls)
text_ascii [] h = IsAscii-nil
text_ascii (line ∷ ls) h =
    IsAscii-append line.name (spaced line.words ++ (10 ∷ text ls)) h.0.0
    (IsAscii-append (spaced line.words) (10 ∷ text ls) (spaced_ascii line.words h.0.1)
    (IsAscii-cons 10 (text ls) (omega arith) (text_ascii ls h.1)))

small_decimal : (n : ℕ) → n ≤ 8192 → IsAscii (decimal n)
small_decimal n h = IsAscii-decimal n (omega arith)

decimals : (q : ℕ) (xs : List ℕ) → q ≤ LARGEST_ORDER → All (λ x. x < q) xs
    → AllByRecursion IsAscii (map decimal xs)
decimals q [] l h = tt
decimals q (x ∷ xs) l h = (
  small_decimal x (let m = h 0 x (omega arith) in omega arith),
  decimals q xs l (λ i d m. h (suc i) d (omega arith)),
)

key_ascii : (k : ℕ × ℕ) → k.0 ≤ 8192 → k.1 ≤ 8192 → IsAscii (key_word k)
key_ascii k a b =
    IsAscii-append (decimal k.0) (58 ∷ decimal k.1) (small_decimal k.0 a)
    (IsAscii-cons 58 (decimal k.1) (omega arith) (small_decimal k.1 b))

keys : (q s : ℕ) (ks : List (ℕ × ℕ)) → q ≤ LARGEST_ORDER → s ≤ MOST_ENTRIES + 1
    → All (λ k. (k.0 < q) × (1 ≤ k.1) × (k.1 < s)) ks → AllByRecursion IsAscii (map key_word ks)
keys q s [] l m h = tt
keys q s (k ∷ ks) l m h =
    let w = h 0 k (omega arith) in
    let a = w.0 in
    let b = w.2 in
    (key_ascii k (omega arith) (omega arith), keys q s ks l m (λ i d n. h (suc i) d (omega arith)))

rows_plain : (q : ℕ) (rows : List (List ℕ)) (behind : List Line) → q ≤ LARGEST_ORDER
    → All (λ row. (length row ≡ q) × All (λ x. x < q) row) rows → AllByRecursion IsPlain behind
    → AllByRecursion IsPlain (map row_line rows ++ behind)
rows_plain q [] behind l h b = b
rows_plain q (row ∷ rows) behind l h b = (
  plain (codes "row") (map decimal row) refl (decimals q row l (h 0 row (omega arith)).1),
  rows_plain q rows behind l (λ i d n. h (suc i) d (omega arith)) b,
)

digits_ascii : (ds : List ℕ) → All (λ x. x < 16) ds → IsAscii (map digit_byte ds)
digits_ascii [] h = IsAscii-nil
digits_ascii (d ∷ ds) h =
    IsAscii-cons (digit_byte d) (map digit_byte ds) (byte_is_ascii d (h 0 d (omega arith)))
    (digits_ascii ds (λ i x n. h (suc i) x (omega arith)))

first_small : (d : ℕ) → IsFirstDigit d → d < 16
first_small d (inl e) = omega arith
first_small d (inr (inl e)) = omega arith
first_small d (inr (inr (inl e))) = omega arith
first_small d (inr (inr (inr e))) = omega arith

code_ascii : (code : List ℕ) → IsCode code → IsAscii (code_text code)
code_ascii [] h = absurd h
code_ascii (d ∷ ds) h =
    IsAscii-cons (digit_byte d) (46 ∷ map digit_byte ds) (byte_is_ascii d (first_small d h.0))
    (IsAscii-cons 46 (map digit_byte ds) (omega arith) (digits_ascii ds h.3))

one_to_three : (third first : Bool) → (if third then 3 else if first then 1 else 2) ≤ 8192
one_to_three true first = omega arith
one_to_three false true = omega arith
one_to_three false false = omega arith

format_small : (c : Certificate) → format_of c ≤ 8192
format_small c = one_to_three _ _

abbrev IsRowIn : ℕ → List ℕ → Type 0
IsRowIn q row = (length row ≡ q) × All (λ x. x < q) row

-- the rows that the text says are some of the table's
said_rows : (c : Certificate) (third : Bool) → All (IsRowIn c.order) c.rows
    → All (IsRowIn c.order) ((if third then compacted c else c).rows)
said_rows c true h =
    All-take (IsRowIn c.order) (firsts_of c.words) (drop 1 c.rows)
    (All-drop (IsRowIn c.order) 1 c.rows h)
said_rows c false h = h

end_plain : AllByRecursion IsPlain (record { name = codes "end"; words = [] } ∷ [])
end_plain = (plain (codes "end") [] refl tt, tt)

-- the separators' line, where it stands, and the last one
apart_plain : (c : Certificate) (third : Bool) → InRanges c
    → AllByRecursion IsPlain
    ((if third then [] else record { name = codes "apart"; words = map decimal c.apart } ∷ [])
    ++ record { name = codes "end"; words = [] } ∷ [])
apart_plain c true r = end_plain
apart_plain c false r =
    (plain (codes "apart") (map decimal c.apart) refl (decimals c.order c.apart r.order.1 r.apart.1), end_plain)

lines_plain : (c : Certificate) → InRanges c → AllByRecursion IsPlain (lines c)
lines_plain c r =
    let q = r.order.1 in
    let sp = r.period.1 in
    let one = λ (name w : List ℕ) (e : small_bytes name ≡ true) (a : IsAscii w). plain name (w ∷ []) e (a, tt) in
    let mqc = one (codes "mqc") _ refl (small_decimal (format_of c) (format_small c)) in
    let code = one (codes "code") _ refl (code_ascii c.code r.code) in
    let order = one (codes "order") _ refl (small_decimal c.order (omega arith)) in
    let start = one (codes "start") _ refl (small_decimal c.start (omega arith)) in
    let period = one (codes "period") _ refl (small_decimal c.period (omega arith)) in
    let phi = plain (codes "phi") (map decimal c.phi) refl (decimals c.order c.phi q r.phi.1) in
    let portion =
    plain (codes "portion") (map decimal c.portion) refl (decimals c.order c.portion q r.portion.1) in
    let words =
    plain (codes "words") (map key_word c.words) refl
    (keys c.order (c.start + c.period) c.words q sp r.words.1) in
    let rows =
    rows_plain c.order (said c).rows _ q (said_rows c (format_of c == 3) r.rows.1)
    (apart_plain c (format_of c == 3) r) in
    (mqc, (code, (order, (start, (period, (phi, (portion, (words, rows))))))))

-- the text of a certificate is UTF-8
pub certificate_utf8 : (c : Certificate) → InRanges c → IsUtf8 (text (lines c))
certificate_utf8 c r = IsUtf8-from_ascii (text (lines c)) (text_ascii (lines c) (lines_plain c r))

entries_no_float : (cs : List Certificate) → items_have_float (items_of (map entry_data cs)) ≡ false
entries_no_float [] = refl
entries_no_float (c ∷ cs) = entries_no_float cs

pub no_float : (cs : List Certificate) → has_float (catalogue_data cs) ≡ false
no_float cs = ap (λ b. b || (false || false)) (entries_no_float cs)

-- what an empty sink took is what went out
pub taken_is : (a b : Option (List ℕ)) (bytes t : List ℕ) → a ≡ Some [] → Appends a b t
    → b ≡ Some bytes → bytes ≡ t
taken_is None b bytes t e p q = cc
taken_is (Some xs) None bytes t e p q = absurd p
taken_is (Some xs) (Some ys) bytes t e p q =
    let x : xs ≡ [] = cc in
    let y : ys ≡ bytes = cc in
    sym (ap (λ z. z ++ t) (sym x) ∙ sym p ∙ y)
