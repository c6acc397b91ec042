-- A text without a fault spells a code.
use Rattle.std.proofs.Common.{◌≡◌, ◌≢◌, ◌≤◌, ◌<◌, ◌+◌, ◌-◌, All, ℕ, suc, zero, true, false, List, arith, drop, get_or, length, subst, sym, ◌∙◌, ap, refl}
use Rattle.std.proofs.lemmas.Bool.Decides.{nat_tests}
use Rattle.std.proofs.lemmas.List.{get_or-drop, get_or_default, length-drop}
use Rattle.octal_code.specs.Spelling.{IsDigitByte, IsFirstByte, IsSpelling, digits_in}
use Rattle.octal_code.proofs.Spelled.{code_read, read_code}
use Rattle.verdict_commands.specs.Codes.{HasFront, IsCodeFault, IsCodeWord, is_code_byte}
use Rattle.verdict_commands.specs.declared.faults.WrittenCodeFault.{WrittenCodeFault}
use Rattle.verdict_commands.specs.declared.faults.WrittenCodeFault.TheVariants.{Empty, Byte, First, Point, NoDigit, SecondPoint, LastZero, Long}

digit : (b : ℕ) → is_code_byte b ≡ true → b ≢ 46 → IsDigitByte b
digit b h apart = grind (arith, nat_tests)

behind : (text : List ℕ)
    → ((i : ℕ) → i < length text → is_code_byte (get_or text i 0) ≡ true)
    → ((i : ℕ) → 2 ≤ i → i < length text → get_or text i 0 ≢ 46) → All IsDigitByte (drop 2 text)
behind text bytes points k d l =
    let n = length-drop 2 text in
    let here : 2 + k < length text = omega (arith, n, l) in
    subst IsDigitByte
    (sym (get_or-drop 2 text k 0) ∙ get_or_default (drop 2 text) k 0 d l)
    (digit (get_or text (2 + k) 0) (bytes (2 + k) here) (points (2 + k) (omega arith) here))

pub spelled : (text : List ℕ)
    → ((i : ℕ) → i < length text → is_code_byte (get_or text i 0) ≡ true)
    → HasFront text
    → ((i : ℕ) → 2 ≤ i → i < length text → get_or text i 0 ≢ 46)
    → get_or text (length text - 1) 0 ≢ 48 → IsCodeWord text
spelled text bytes front points last =
    let is : IsSpelling text = record {
      some = front.some;
      first = front.first;
      point = front.point;
      digits = behind text bytes points;
      last = last;
    } in
    (digits_in text, code_read text is front.few)

-- ---- no code has a fault

digit_fits : (b : ℕ) → is_code_byte b ≡ false → IsDigitByte b → ⊥
digit_fits b h d = grind (arith, nat_tests)

first_fits : (b : ℕ) → is_code_byte b ≡ false → IsFirstByte b → ⊥
first_fits b h f = grind (arith, nat_tests)

point_fits : (b : ℕ) → is_code_byte b ≡ false → b ≡ 46 → ⊥
point_fits b h e = grind (arith, nat_tests)

point_is_no_digit : (b : ℕ) → b ≡ 46 → IsDigitByte b → ⊥
point_is_no_digit b e d = grind (arith, nat_tests)

-- the bytes behind the point are digits
digit_at : (text : List ℕ) (i : ℕ) → IsSpelling text → 2 ≤ i → i < length text
    → IsDigitByte (get_or text i 0)
digit_at text i is two l =
    let n = length-drop 2 text in
    let same : 2 + (i - 2) ≡ i = omega arith in
    subst IsDigitByte (get_or-drop 2 text (i - 2) 0 ∙ ap (λ k. get_or text k 0) same)
    (is.digits (i - 2) 0 (omega arith))

no_strange : (text : List ℕ) (i : ℕ) → IsSpelling text → i < length text
    → is_code_byte (get_or text i 0) ≡ false → ⊥
no_strange text i is l h = by i refl
  where
    by : (k : ℕ) → i ≡ k → ⊥
    by zero e = first_fits (get_or text i 0) h
        (subst (λ k. IsFirstByte (get_or text k 0)) (sym e) is.first)
    by (suc zero) e = point_fits (get_or text i 0) h (ap (λ k. get_or text k 0) e ∙ is.point)
    by (suc (suc k)) e =
        digit_fits (get_or text i 0) h (digit_at text i is (omega arith) l)

no_fault : (text : List ℕ) (fault : WrittenCodeFault) → IsSpelling text → length text ≤ 18
    → IsCodeFault text fault → ⊥
no_fault text Empty is few e = let n = ap length e in let some = is.some in omega arith
no_fault text (Byte place byte) is few h =
    no_strange text (place - 1) is (let a = h.0.0 in let b = h.0.1 in omega arith)
    (ap is_code_byte h.0.2 ∙ h.1)
no_fault text First is few h = h.2 (subst IsFirstByte h.1.2 is.first)
no_fault text Point is few h =
    h (let some = is.some in omega arith, let some = is.some in omega arith, is.point)
no_fault text NoDigit is few h = let some = is.some in omega arith
no_fault text (SecondPoint place) is few h =
    point_is_no_digit (get_or text (place - 1) 0) h.0.2
    (digit_at text (place - 1) is (let a = h.1 in omega arith) (let a = h.1 in let b = h.0.1 in omega arith))
no_fault text LastZero is few h = is.last h.2
no_fault text (Long digits) is few h = let a = h.0 in let b = h.1 in omega arith

pub refused : (text : List ℕ) (fault : WrittenCodeFault) → IsCodeFault text fault → IsCodeWord text
    → ⊥
refused text fault h code =
    let read = read_code text code.0 code.1 in no_fault text fault read.0 read.1 h
