-- The digits of a number are its decimal text: its last digit, behind the text of the others.
use Rattle.std.proofs.Common.{◌≡◌, ℕ, ◌+◌, ◌*◌, ◌/◌, ◌%◌, ◌^◌, ◌<◌, ◌≤◌, List, [], ◌∷◌, ◌++◌, refl, sym, ap, subst, ◌∙◌, arith}
use Rattle.std.specs.Fmt.{decimal}
use Rattle.std.proofs.lemmas.Fmt.{decimal_digit, decimal_step, decimal_by_steps}
use Rattle.certificate_text.specs.Lines.{IsNumber}
use Rattle.certificate_text.specs.Lines.IsNumber.{One, More}

pub is_decimal : {ds : List ℕ} {n : ℕ} → IsNumber ds n → n < 2 ^ 64 → ds ≡ decimal n
is_decimal (One d lt) fits = sym (decimal_digit d lt)
is_decimal (More {ds = ds} {n = n} d before pos lt) fits =
    let q : (10 * n + d) / 10 ≡ n = omega arith in
    let r : (10 * n + d) % 10 ≡ d = omega arith in
    ap (λ (t : List ℕ). t ++ (48 + d) ∷ []) (is_decimal before (omega arith))
    ∙ sym (decimal_step (10 * n + d) (omega arith) fits ∙ rw (q, r) refl)

more_digits : (n : ℕ) (ds : List ℕ) → 10 ≤ n → IsNumber ds (n / 10)
    → IsNumber (ds ++ (48 + n % 10) ∷ []) n
more_digits n ds le h =
    let whole : 10 * (n / 10) + n % 10 ≡ n = omega arith in
    subst (λ (k : ℕ). IsNumber (ds ++ (48 + n % 10) ∷ []) k) whole
    (More (n % 10) h (omega arith) (omega arith))

pub decimal_is : (n : ℕ) → n < 2 ^ 64 → IsNumber (decimal n) n
decimal_is n fits = decimal_by_steps (λ n ds. IsNumber ds n) (λ n lt. One n lt) more_digits n fits
