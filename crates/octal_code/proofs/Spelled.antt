-- Bytes that pass the reader's tests spell a code, or one that is too long, and only such bytes do.
use Rattle.std.proofs.Common.{◌≡◌, ◌≢◌, ℕ, zero, suc, ◌+◌, ◌-◌, ◌<◌, ◌≤◌, inl, inr, List, [], ◌∷◌, length, get_or, set, take, drop, map, refl, sym, ap, ap₂, ◌∙◌, subst, arith, All, lt-ltb, le-ltb}
use Rattle.std.proofs.lemmas.List.{length-map, length-drop, length-set, length-take-le, get_or-drop, get_or-map, get_or-set_other, get_or-take}
use Rattle.std.proofs.lemmas.List.Edits.{fill_by_more}
use Rattle.std.proofs.lemmas.Grind.{same_number_lists}
use Rattle.std.proofs.lemmas.List.Elements.{All-map, All-head, All-tail}
use Rattle.std.specs.Prelude.{Result, Ok, Err}
use native.Mathlib.Decide.{dec_lt}
use Rattle.misere_theory.specs.Games.{IsCode, IsFirstDigit}
use Rattle.octal_code.specs.declared.fault.CodeFault.{CodeFault}
use Rattle.octal_code.specs.declared.fault.CodeFault.TheVariants.{NotACode, TooLong}
use Rattle.octal_code.specs.Digits.{HoldsCode}
use Rattle.octal_code.specs.Text.{digit_byte, code_text, IsCodeText, IsLongCode, IsLongCodeText, IsNoCodeText}
use Rattle.octal_code.specs.Spelling.{IsDigitByte, IsFirstByte, IsSpelling, digit_of, digits_in}

-- what codes and longer ones have in common
abbrev pub AreDigits : List ℕ → Type 0
AreDigits [] = ⊥
AreDigits (d ∷ ds) = IsFirstDigit d × (1 ≤ length ds) × All (λ x. x < 16) ds
    × (get_or ds (length ds - 1) 0 ≢ 0)

parts : (bytes : List ℕ) → 3 ≤ length bytes
    → bytes ≡ get_or bytes 0 0 ∷ get_or bytes 1 0 ∷ drop 2 bytes
parts [] l = absurd (omega arith)
parts (a ∷ []) l = absurd (omega arith)
parts (a ∷ b ∷ bytes) l = refl

-- a digit and its byte, below ten and from ten on
digit_low : (d : ℕ) → d < 10 → digit_byte d ≡ 48 + d
digit_low d l = rw (lt-ltb d 10 l) refl

digit_high : (d : ℕ) → 10 ≤ d → digit_byte d ≡ 87 + d
digit_high d l = rw (le-ltb d 10 l) refl

byte_low : (b : ℕ) → b < 58 → digit_of b ≡ b - 48
byte_low b l = rw (lt-ltb b 58 l) refl

byte_high : (b : ℕ) → 58 ≤ b → digit_of b ≡ b - 87
byte_high b l = rw (le-ltb b 58 l) refl

pub byte_again : (b : ℕ) → IsDigitByte b → digit_byte (digit_of b) ≡ b
byte_again b (inl h) =
    ap digit_byte (byte_low b h.1) ∙ digit_low (b - 48) (omega arith)
    ∙ (let e : 48 + (b - 48) ≡ b = omega arith in e)
byte_again b (inr h) =
    ap digit_byte (byte_high b (omega arith)) ∙ digit_high (b - 87) (omega arith)
    ∙ (let e : 87 + (b - 87) ≡ b = omega arith in e)

digit_again : (d : ℕ) → digit_of (digit_byte d) ≡ d
digit_again d = elim (dec_lt d 10) [
  | yes l ↦
      ap digit_of (digit_low d l) ∙ byte_low (48 + d) (omega arith)
      ∙ (let e : 48 + d - 48 ≡ d = omega arith in e)
  | no f ↦
      ap digit_of (digit_high d (omega arith)) ∙ byte_high (87 + d) (omega arith)
      ∙ (let e : 87 + d - 87 ≡ d = omega arith in e)
]

digit_below : (b : ℕ) → IsDigitByte b → digit_of b < 16
digit_below b (inl h) = let e = byte_low b h.1 in omega arith
digit_below b (inr h) = let e = byte_high b (omega arith) in omega arith

byte_of_digit : (d : ℕ) → d < 16 → IsDigitByte (digit_byte d)
byte_of_digit d l = elim (dec_lt d 10) [
  | yes h ↦ let e = digit_low d h in inl (omega arith, omega arith)
  | no f ↦ let e = digit_high d (omega arith) in inr (omega arith, omega arith)
]

pub byte_is_ascii : (d : ℕ) → d < 16 → digit_byte d < 128
byte_is_ascii d l = elim (dec_lt d 10) [
  | yes h ↦ let e = digit_low d h in omega arith
  | no f ↦ let e = digit_high d (omega arith) in omega arith
]

zero_byte : (b : ℕ) → IsDigitByte b → digit_of b ≡ 0 → b ≡ 48
zero_byte b (inl h) e = let f = byte_low b h.1 in omega arith
zero_byte b (inr h) e = let f = byte_high b (omega arith) in omega arith

zero_digit : (d : ℕ) → digit_byte d ≡ 48 → d ≡ 0
zero_digit d e = elim (dec_lt d 10) [
  | yes h ↦ let f = digit_low d h in omega arith
  | no g ↦ let f = digit_high d (omega arith) in omega arith
]

spelled_again : (bs : List ℕ) → All IsDigitByte bs → map digit_byte (map digit_of bs) ≡ bs
spelled_again [] h = refl
spelled_again (b ∷ bs) h =
    ap₂ (λ x xs. x ∷ xs) (byte_again b (All-head IsDigitByte b bs h))
    (spelled_again bs (All-tail IsDigitByte b bs h))

read_again : (ds : List ℕ) → map digit_of (map digit_byte ds) ≡ ds
read_again [] = refl
read_again (d ∷ ds) = ap₂ (λ x xs. x ∷ xs) (digit_again d) (read_again ds)

digits_below : (bs : List ℕ) → All IsDigitByte bs → All (λ x. x < 16) (map digit_of bs)
digits_below bs h = All-map (λ x. x < 16) digit_of bs (λ k d l. digit_below _ (h k d l))

bytes_above : (ds : List ℕ) → All (λ x. x < 16) ds → All IsDigitByte (map digit_byte ds)
bytes_above ds h = All-map IsDigitByte digit_byte ds (λ k d l. byte_of_digit _ (h k d l))

-- the last digit is that of the last byte
last_digit : (bytes : List ℕ) → 3 ≤ length bytes
    → get_or (map digit_of (drop 2 bytes)) (length (map digit_of (drop 2 bytes)) - 1) 0
    ≡ digit_of (get_or bytes (length bytes - 1) 0)
last_digit bytes l =
    let n : length (map digit_of (drop 2 bytes)) ≡ length bytes - 2 =
    length-map (drop 2 bytes) digit_of ∙ length-drop 2 bytes in
    let m = length-drop 2 bytes in
    ap (λ k. get_or (map digit_of (drop 2 bytes)) (k - 1) 0) n
    ∙ get_or-map digit_of (drop 2 bytes) (length bytes - 2 - 1) 0 0 (omega arith)
    ∙ ap digit_of (get_or-drop 2 bytes (length bytes - 2 - 1) 0
    ∙ ap (λ k. get_or bytes k 0) (omega arith))

last_byte : (d : ℕ) (ds : List ℕ) → 1 ≤ length ds
    → get_or (code_text (d ∷ ds)) (length (code_text (d ∷ ds)) - 1) 0
    ≡ digit_byte (get_or ds (length ds - 1) 0)
last_byte d ds l =
    let n : length (map digit_byte ds) ≡ length ds = length-map ds digit_byte in
    ap (λ k. get_or (digit_byte d ∷ 46 ∷ map digit_byte ds) k 0)
    (let e : suc (suc (length (map digit_byte ds))) - 1 ≡ suc (suc (length ds - 1)) =
    omega arith in e)
    ∙ get_or-map digit_byte ds (length ds - 1) 0 0 (omega arith)

abbrev IsRead : ℕ → Type 0
IsRead v = IsFirstDigit (digit_of v) × (digit_byte (digit_of v) ≡ v)

first_digit : (b : ℕ) → IsFirstByte b → IsFirstDigit (digit_of b) × (digit_byte (digit_of b) ≡ b)
first_digit b h = elim h [
  | inl e ↦ subst IsRead (sym e) (inl refl, refl)
  | inr (inl e) ↦ subst IsRead (sym e) (inr (inl refl), refl)
  | inr (inr (inl e)) ↦ subst IsRead (sym e) (inr (inr (inl refl)), refl)
  | inr (inr (inr e)) ↦ subst IsRead (sym e) (inr (inr (inr refl)), refl)
]

first_byte : (d : ℕ) → IsFirstDigit d → IsFirstByte (digit_byte d)
first_byte d h = elim h [
  | inl e ↦ inl (ap digit_byte e)
  | inr (inl e) ↦ inr (inl (ap digit_byte e))
  | inr (inr (inl e)) ↦ inr (inr (inl (ap digit_byte e)))
  | inr (inr (inr e)) ↦ inr (inr (inr (ap digit_byte e)))
]

last_byte_is_digit : (bytes : List ℕ) → 3 ≤ length bytes → All IsDigitByte (drop 2 bytes)
    → IsDigitByte (get_or bytes (length bytes - 1) 0)
last_byte_is_digit bytes l h =
    let m = length-drop 2 bytes in
    let e : get_or (drop 2 bytes) (length bytes - 3) 0 ≡ get_or bytes (length bytes - 1) 0 =
    get_or-drop 2 bytes (length bytes - 3) 0 ∙ ap (λ k. get_or bytes k 0) (omega arith) in
    subst IsDigitByte e (h (length bytes - 3) 0 (omega arith))

pub digits_of_spelling : (bytes : List ℕ) → IsSpelling bytes → AreDigits (digits_in bytes)
    × (bytes ≡ code_text (digits_in bytes))
digits_of_spelling bytes h =
    let l = h.some in
    let n = length-map (drop 2 bytes) digit_of in
    let m = length-drop 2 bytes in
    let d = first_digit (get_or bytes 0 0) h.first in
    let low = last_byte_is_digit bytes l h.digits in
    let last = last_digit bytes l in (
      (
        d.0,
        omega arith,
        digits_below (drop 2 bytes) h.digits,
        λ e. h.last (zero_byte (get_or bytes (length bytes - 1) 0) low (sym last ∙ e)),
      ),
      parts bytes l ∙ ap₂ (λ x xs. x ∷ xs) (sym d.1)
          (ap₂ (λ x xs. x ∷ xs) h.point (sym (spelled_again (drop 2 bytes) h.digits))),
    )

pub spelling_of_digits : (ds : List ℕ) → AreDigits ds → IsSpelling (code_text ds)
    × (digits_in (code_text ds) ≡ ds)
spelling_of_digits [] h = absurd h
spelling_of_digits (d ∷ ds) (first, some, octal, last) =
    let n = length-map ds digit_byte in
    let end = last_byte d ds some in (
      record {
        some = omega arith;
        first = first_byte d first;
        point = refl;
        digits = bytes_above ds octal;
        last = λ e. last (zero_digit (get_or ds (length ds - 1) 0) (sym end ∙ e));
      },
      ap₂ (λ x xs. x ∷ xs) (digit_again d) (read_again ds),
    )

digits_of_code : (ds : List ℕ) → IsCode ds → AreDigits ds × (length (code_text ds) ≤ 18)
digits_of_code [] h = absurd h
digits_of_code (d ∷ ds) (first, some, short, octal, last) =
    ((first, some, octal, last), let n = length-map ds digit_byte in omega arith)

digits_of_long : (ds : List ℕ) → IsLongCode ds → AreDigits ds × (18 < length (code_text ds))
digits_of_long [] h = absurd h
digits_of_long (d ∷ ds) (first, many, octal, last) =
    ((first, omega arith, octal, last), let n = length-map ds digit_byte in omega arith)

code_of_digits : (ds : List ℕ) → AreDigits ds → length (code_text ds) ≤ 18 → IsCode ds
code_of_digits [] h l = absurd h
code_of_digits (d ∷ ds) (first, some, octal, last) l =
    (first, some, let n = length-map ds digit_byte in omega arith, octal, last)

long_of_digits : (ds : List ℕ) → AreDigits ds → 18 < length (code_text ds) → IsLongCode ds
long_of_digits [] h l = absurd h
long_of_digits (d ∷ ds) (first, some, octal, last) l =
    (first, let n = length-map ds digit_byte in omega arith, octal, last)

pub code_read : (bytes : List ℕ) → IsSpelling bytes → length bytes ≤ 18
    → IsCodeText bytes (digits_in bytes)
code_read bytes h l =
    let (ds, e) = digits_of_spelling bytes h in
    record {
      code = code_of_digits (digits_in bytes) ds (subst (λ b. length b ≤ 18) e l);
      spelled = e;
    }

pub long_read : (bytes : List ℕ) → IsSpelling bytes → 18 < length bytes → IsLongCodeText bytes
long_read bytes h l =
    let (ds, e) = digits_of_spelling bytes h in
    record {
      digits = digits_in bytes;
      long = long_of_digits (digits_in bytes) ds
          (subst (λ b. 18 < length b) e l);
      spelled = e;
    }

pub read_code : (bytes ds : List ℕ) → IsCodeText bytes ds → IsSpelling bytes × (length bytes ≤ 18)
    × (digits_in bytes ≡ ds)
read_code bytes ds h =
    let (d, l) = digits_of_code ds h.code in
    let (s, e) = spelling_of_digits ds d in
    subst (λ b. IsSpelling b × (length b ≤ 18) × (digits_in b ≡ ds)) (sym h.spelled) (s, l, e)

pub read_long : (bytes : List ℕ) → IsLongCodeText bytes → IsSpelling bytes × (18 < length bytes)
read_long bytes h =
    let (d, l) = digits_of_long h.digits h.long in
    let (s, e) = spelling_of_digits h.digits d in
    subst (λ b. IsSpelling b × (18 < length b)) (sym h.spelled) (s, l)

digit_at : (bytes : List ℕ) (i : ℕ) → 1 ≤ i → i + 1 < length bytes
    → get_or (digits_in bytes) i 0 ≡ digit_of (get_or bytes (i + 1) 0)
digit_at bytes zero l h = absurd (omega arith)
digit_at bytes (suc i) l h =
    let m = length-drop 2 bytes in
    get_or-map digit_of (drop 2 bytes) i 0 0 (omega arith)
    ∙ ap digit_of (get_or-drop 2 bytes i 0 ∙ ap (λ k. get_or bytes k 0) (omega arith))

-- the first i digits stand in their places, and zeros behind them
pub record IsFilled (bytes ds : List ℕ) (i : ℕ) : Type 0 where
  pub room : length ds ≡ 17
  pub there : (k : ℕ) → k < i → get_or ds k 0 ≡ get_or (digits_in bytes) k 0
  pub zeros : (k : ℕ) → i ≤ k → get_or ds k 0 ≡ 0

pub filled_more : (bytes ds : List ℕ) (i d : ℕ) → d ≡ digit_of (get_or bytes (i + 1) 0) → 1 ≤ i
    → i + 1 < length bytes → i < 17
    → IsFilled bytes ds i → IsFilled bytes (set ds i d) (i + 1)
filled_more bytes ds i d e l h s f = record {
  room = length-set ds i d ∙ f.room;
  there = subst (λ v. (k : ℕ) → k < i + 1 → get_or (set ds i v) k 0 ≡ get_or (digits_in bytes) k 0)
      (digit_at bytes i l h ∙ sym e)
      (fill_by_more (λ k. get_or (digits_in bytes) k 0) ds i 0 (let r = f.room in
      omega arith) f.there);
  zeros = λ k m. get_or-set_other ds i k d 0 (λ same. omega arith)
      ∙ f.zeros k (omega arith);
}

pub filled_all : (bytes ds : List ℕ) → IsSpelling bytes → length bytes ≤ 18
    → IsFilled bytes ds (length bytes - 1) → take (length bytes - 1) ds ≡ digits_in bytes
filled_all bytes ds h l f =
    let some = h.some in
    let r = f.room in
    let n = length-map (drop 2 bytes) digit_of in
    let m = length-drop 2 bytes in
    let t : length (take (length bytes - 1) ds) ≡ length bytes - 1 =
    length-take-le (length bytes - 1) ds (omega arith) in
    same_number_lists (take (length bytes - 1) ds) (digits_in bytes) (omega arith)
    (λ k s. get_or-take (length bytes - 1) ds k 0 (omega arith) ∙ f.there k (omega arith))

pub filled_code : (bytes ds : List ℕ) → IsSpelling bytes → length bytes ≤ 18
    → IsFilled bytes ds (length bytes - 1) → HoldsCode ds (length bytes - 1)
filled_code bytes ds h l f = record {
  room = f.room;
  short = let some = h.some in omega arith;
  code = subst IsCode (sym (filled_all bytes ds h l f)) (code_read bytes h l).code;
  past = f.zeros;
}

pub no_code : (bytes : List ℕ) → (IsSpelling bytes → ⊥) → IsNoCodeText bytes
no_code bytes h =
    record { no_code = λ ds c. h (read_code bytes ds c).0; not_long = λ l. h (read_long bytes l).0 }

-- a code is no fault, and faults differ
pub code_is_no_fault : {X : Type 0} {x : X} {f : CodeFault} → Ok x ≡ Err f → ⊥
code_is_no_fault e = absurd (cc)

pub fault_is_no_code : {X : Type 0} {x : X} {f : CodeFault} → Err f ≡ Ok x → ⊥
fault_is_no_code e = absurd (cc)

pub same_code : {X : Type 0} {x y : X} → ◌≡◌ {A = Result X CodeFault} (Ok x) (Ok y) → x ≡ y
same_code e = cc

pub other_fault : {X : Type 0} {f g : CodeFault} → (f ≡ g → ⊥)
    → ◌≡◌ {A = Result X CodeFault} (Err f) (Err g) → ⊥
other_fault differ e = differ (cc)

pub too_long_or_no_code : TooLong ≡ NotACode → ⊥
too_long_or_no_code e = absurd (cc)
