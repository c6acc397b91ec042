-- What is written reads as the text of the position.
-- The decimal text of a size is a numeral without a space, so that spaces part it from the next.
use Rattle.std.proofs.Common.{◌≡◌, ◌≢◌, ℕ, ◌+◌, ◌-◌, ◌*◌, ◌/◌, ◌%◌, ◌^◌, ◌<◌, ◌≤◌, eqb, false, List, [], ◌∷◌, ◌++◌, length, get_or, take, map, decimal, refl, sym, ap, ◌∙◌, subst, arith, append_assoc, All}
use Rattle.std.specs.Int.Digits.{number_from_digits}
use Rattle.std.specs.List.{AllZip}
use Rattle.std.proofs.Math.ListN.{get_or-append}
use Rattle.std.proofs.lemmas.Bool.Decides.{nat_tests}
use Rattle.std.proofs.lemmas.Fmt.{decimal_by_steps}
use Rattle.std.proofs.lemmas.Int.Digits.{number_push}
use Rattle.std.proofs.lemmas.List.{append-nil, length-append, map-append, take_more, take_all}
use Rattle.std.proofs.lemmas.List.Elements.{All-nil, All-cons, All-push, All-head, All-tail}
use Rattle.std.proofs.lemmas.List.Splits.{slice_split_none, slice_split_at}
use Rattle.positions.specs.Positions.{IsSize}
use Rattle.positions.specs.Text.{IsDigitByte, number_of, IsNumeralOf, words_of, IsPositionText, position_text, text_behind}

-- ---- the decimal text of a number is its numeral

record IsDecimal (n : ℕ) (ds : List ℕ) : Type 0 where
  some : 0 < length ds
  digits : All IsDigitByte ds
  first : 1 ≤ n → get_or ds 0 0 ≢ 48
  value : number_of ds ≡ n

one_digit : (n : ℕ) → n < 10 → IsDecimal n ((48 + n) ∷ [])
one_digit n l = record {
  some = omega arith;
  digits = All-cons IsDigitByte (48 + n) [] (omega arith, omega arith) (All-nil IsDigitByte);
  first = λ p e. omega arith;
  value = let v : number_from_digits 10 ((48 + n - 48) ∷ []) ≡ 0 * 10 + (48 + n - 48) = refl in
      v ∙ omega arith;
}

more_digits : (n : ℕ) (ds : List ℕ) → 10 ≤ n → IsDecimal (n / 10) ds
    → IsDecimal n (ds ++ (48 + n % 10) ∷ [])
more_digits n ds l h =
    let some = h.some in
    record {
      some = let m = length-append ds ((48 + n % 10) ∷ []) in omega arith;
      digits = All-push IsDigitByte ds (48 + n % 10) h.digits (omega arith, omega arith);
      first =
          λ p e. h.first (omega arith) (sym (get_or-append ds ((48 + n % 10) ∷ []) 0 0 some) ∙ e);
      value =
          ap (number_from_digits 10) (map-append (λ b. b - 48) ds ((48 + n % 10) ∷ []))
          ∙ number_push 10 (map (λ b. b - 48) ds) (48 + n % 10 - 48)
          ∙ ap (λ v. v * 10 + (48 + n % 10 - 48)) h.value
          ∙ omega arith;
    }

decimal_is : (n : ℕ) → n < 2 ^ 64 → IsDecimal n (decimal n)
decimal_is n l = decimal_by_steps IsDecimal one_digit more_digits n l

numeral_is : (n : ℕ) → IsSize n → IsNumeralOf (decimal n) n
numeral_is n s =
    let d = decimal_is n (omega arith) in
    record {
      numeral = record { some = d.some; digits = d.digits; first = d.first s.0 };
      value = sym d.value;
    }

-- ---- the words of what is written

no_space : (n : ℕ) → n < 2 ^ 64 → All (λ b. eqb b 32 ≡ false) (decimal n)
no_space n l = λ k d m. let h = (decimal_is n l).digits k d m in apart (get_or (decimal n) k d) h.0
  where
    apart : (b : ℕ) → 48 ≤ b → eqb b 32 ≡ false
    apart b l = grind (arith, nat_tests)

words : (n : ℕ) (ns : List ℕ) → All IsSize (n ∷ ns)
    → words_of (decimal n ++ text_behind ns) ≡ map decimal (n ∷ ns)
words n [] a =
    let s = All-head IsSize n [] a in
    ap words_of (append-nil (decimal n)) ∙ slice_split_none (λ b. eqb b 32) (decimal n)
    (no_space n (omega arith))
words n (m ∷ ms) a =
    let s = All-head IsSize n (m ∷ ms) a in
    slice_split_at (λ b. eqb b 32) (decimal n) 32 (decimal m ++ text_behind ms)
    (no_space n (omega arith)) refl
    ∙ ap (λ ws. decimal n ∷ ws) (words m ms (All-tail IsSize n (m ∷ ms) a))

numerals : (ns : List ℕ) → All IsSize ns → AllZip IsNumeralOf (map decimal ns) ns
numerals [] a = tt
numerals (n ∷ ns) a = (numeral_is n (All-head IsSize n ns a), numerals ns (All-tail IsSize n ns a))

pub written : (X : List ℕ) → All IsSize X → IsPositionText (position_text X) X
written [] a = refl
written (n ∷ ns) a =
    subst (λ ws. AllZip IsNumeralOf ws (n ∷ ns)) (sym (words n ns a)) (numerals (n ∷ ns) a)

-- ---- one size after another

behind-push : (ns : List ℕ) (n : ℕ) → text_behind (ns ++ n ∷ []) ≡ text_behind ns ++ 32 ∷ decimal n
behind-push [] n = ap (λ ds. 32 ∷ ds) (append-nil (decimal n))
behind-push (m ∷ ms) n =
    ap (λ ds. 32 ∷ (decimal m ++ ds)) (behind-push ms n)
    ∙ ap (λ ds. 32 ∷ ds) (sym (append_assoc (decimal m) (text_behind ms) (32 ∷ decimal n)))

pub one_more : (first : ℕ) (others : List ℕ) (i : ℕ) (old : List ℕ) → i < length others
    → old ≡ decimal first ++ text_behind (take i others)
    → (old ++ 32 ∷ []) ++ decimal (get_or others i 0) ≡ decimal first
    ++ text_behind (take (i + 1) others)
one_more first others i old l e =
    append_assoc old (32 ∷ []) (decimal (get_or others i 0))
    ∙ ap (λ bs. bs ++ 32 ∷ decimal (get_or others i 0)) e
    ∙ append_assoc (decimal first) (text_behind (take i others)) (32 ∷ decimal (get_or others i 0))
    ∙ ap (λ bs. decimal first ++ bs)
    (sym (ap text_behind (take_more others i 0 l)
    ∙ behind-push (take i others) (get_or others i 0)))

pub all_written : (first : ℕ) (others bytes X : List ℕ) (i : ℕ) → length others ≤ i
    → bytes ≡ decimal first ++ text_behind (take i others) → X ≡ first ∷ others
    → bytes ≡ position_text X
all_written first others bytes X i l e x =
    e ∙ ap (λ ns. decimal first ++ text_behind ns) (take_all i others l) ∙ sym (ap position_text x)
