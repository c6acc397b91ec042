use Rattle.std.proofs.Common.{rules, arith, ◌≡◌, ◌≢◌, ◌≤◌, ◌<◌, ◌⊎◌, ◌∙◌, ◌==◌, ap, sym, refl, inl}
use Rattle.std.proofs.Common.{inr, subst, suc, zero, ℕ, Bool, true, false, List, IfSome, IfNone}
use Rattle.std.proofs.Common.{decimal, Result, Ok, Err, length, slice_index, get_or}
use Rattle.std.specs.Str.Parse.{ParsesUnsigned, without_leading_plus}
use Rattle.std.specs.Result.{result_ok}
use Rattle.std.proofs.lemmas.Bool.{ne_eqb}
use Rattle.std.proofs.lemmas.Fmt.{first_decimal, decimal-digits_value, decimal_digit, parse-decimal}
use Rattle.std.proofs.lemmas.Str.Parse.{numerals_by_value, tells_digits}
use Rattle.requests.proofs.decimals.spelled_number.Goals as goal

-- a text with a leading plus, or a leading zero and more, is no decimal
not_decimal : (text : List ℕ)
    → (slice_index text 0 ≡ 43) ⊎ ((slice_index text 0 ≡ 48) × (1 < length text))
    → (n : ℕ) → n < 18446744073709551616 → text ≡ decimal n → ⊥
not_decimal text bad zero small is =
    let first : slice_index text 0 ≡ 48 = rw (is, decimal_digit 0 (omega arith)) refl in
    let one : length text ≡ 1 =
    rw (is, decimal_digit 0 (omega arith)) refl in omega (arith, bad, first, one)
not_decimal text bad (suc n) small is =
    let first : 48 < slice_index text 0 =
    rw is (first_decimal (suc n) (omega arith) (omega arith)) in omega (arith, bad, first)

is_test : (a b : ℕ) (r : Bool) → r ≡ true → r ≡ (a == b) → a ≡ b
is_test a b r t h = grind arith

isn't_test : (a b : ℕ) (r : Bool) → r ≡ false → r ≡ (a == b) → a ≢ b
isn't_test a b r t h = grind arith

without_plus : (text : List ℕ) → slice_index text 0 ≢ 43 → without_leading_plus text ≡ text
without_plus text h = rw (ne_eqb _ _ h) refl

read_decimal : (E : Type 0) (text : List ℕ) (r : Result ℕ E) → slice_index text 0 ≢ 43
    → (slice_index text 0 ≡ 48 → length text ≤ 1)
    → ParsesUnsigned 64 10 text r → IfSome (result_ok r) (λ n. text ≡ decimal n)
read_decimal E text (Ok n) sign lead read =
    let bare = without_plus text sign in
    let numeral = read.0.0 in
    let some : 0 < length text = subst (λ (t : List ℕ). 0 < length t) bare numeral.0 in
    let alone : get_or (without_leading_plus text) 0 0 ≡ 48
    → length (without_leading_plus text) ≡ 1 = rw bare (λ h. omega (arith, lead h, some)) in
    let spelled = decimal-digits_value (numerals_by_value _ tells_digits)
    (without_leading_plus text) numeral.1 numeral.0 alone (omega (arith, read.0.1)) in
    sym bare ∙ sym spelled ∙ ap decimal (sym read.1)
read_decimal E text (Err e) sign lead read = tt

no_decimal : (E : Type 0) (text : List ℕ) (r : Result ℕ E) → ParsesUnsigned 64 10 text r
    → IfNone (result_ok r) ((n : ℕ) → n < 18446744073709551616 → text ≢ decimal n)
no_decimal E text (Ok n) read = tt
no_decimal E text (Err e) read = λ n small is. let bad =
    parse-decimal 64 n text (Err e) small (omega arith) is read in cc

pub returns-then-starts_with-clause-none : goal.returns-then-starts_with-clause-none
returns-then-starts_with-clause-none c =
    not_decimal c.args.text.now (inl (is_test _ _ _ c.if-starts_with.true (search rules)))

pub returns-then-text-gt1-clause-none : goal.returns-then-text-gt1-clause-none
returns-then-text-gt1-clause-none c =
    not_decimal c.args.text.now
    (inr (is_test _ _ _ c.if-starts_with-2.true (search rules), c.if-text-gt1.true))

pub returns-clause-some : goal.returns-clause-some
returns-clause-some c =
    rw c.ok.ensures.value
    (read_decimal _ _ _ (isn't_test _ _ _ c.if-starts_with.false (search rules))
    (λ zero. elim c.else-starts_with-2.either [
      | inl h ↦ h.1
      | inr h ↦ absurd (isn't_test _ _ _ h (search rules) zero)
    ]) c.parse.ensures.value.0)

pub returns-clause-none : goal.returns-clause-none
returns-clause-none c = rw c.ok.ensures.value (no_decimal _ _ _ c.parse.ensures.value.0)
