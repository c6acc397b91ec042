-- Reading fixed bytes and numbers: what is read stood there, and what stands there is read.
use Rattle.std.proofs.Common.{◌≡◌, ◌≢◌, ℕ, zero, suc, ◌+◌, ◌-◌, ◌*◌, ◌/◌, ◌%◌, ◌^◌, ◌<◌, ◌≤◌, Bool, true, false, cond, nat_lt, ◌==◌, ◌⊎◌, List, [], ◌∷◌, ◌++◌, Option, Some, None, refl, sym, ap, ◌∙◌, append_assoc, arith, inl, inr}
use Rattle.std.specs.Fmt.{decimal}
use Rattle.std.proofs.lemmas.Fmt.{decimal_digit, decimal_step, decimal_by_steps}
use Rattle.std.proofs.lemmas.Bool.{eqb-true, eqb-false, ltb-true, lt-ltb}
use Rattle.std.proofs.lemmas.Option.{some_pair_parts}
use Rattle.std.proofs.lemmas.Bool.Decides.{nat_tests}
use Rattle.certificate_text.specs.Reading.{◌>>=◌, fixed_at, is_digit, more_at, number_at}
use Rattle.std.proofs.lemmas.List.{append-nil}

-- the value of a step that did not fail
pub bind_some : {A B : Type 0} {r : Option A} {f : A → Option B} {y : B} → (r >>= f) ≡ Some y
    → (x : A) × (r ≡ Some x) × (f x ≡ Some y)
bind_some {r = Some x} e = (x, refl, e)
bind_some {r = None} e = absurd cc

pub some_is : {A : Type 0} {x y : A} → Some x ≡ Some y → x ≡ y
some_is e = cc

pub test_some : {A : Type 0} {b : Bool} {r : Option A} {y : A} → cond b r None ≡ Some y
    → (b ≡ true) × (r ≡ Some y)
test_some {b = true} e = (refl, e)
test_some {b = false} e = absurd cc

pub test_none : {A : Type 0} {b : Bool} {r : Option A} {y : A} → cond b None r ≡ Some y
    → (b ≡ false) × (r ≡ Some y)
test_none {b = true} e = absurd cc
test_none {b = false} e = (refl, e)

pub chosen : {A : Type 0} (b : Bool) (x y z : A) → cond b x y ≡ z → ((b ≡ true) × (x ≡ z))
    ⊎ ((b ≡ false) × (y ≡ z))
chosen true x y z e = inl (refl, e)
chosen false x y z e = inr (refl, e)

-- ---- fixed bytes

pub fixed_takes : (w bytes rest : List ℕ) → fixed_at w bytes ≡ Some rest → bytes ≡ w ++ rest
unfolding fixed_at
fixed_takes [] bytes rest e = some_is e
fixed_takes (w ∷ ws) [] rest e = absurd cc
fixed_takes (w ∷ ws) (b ∷ bytes) rest e =
    let t = test_some e in
    let same : w ≡ b = eqb-true w b t.0 in
    rw same (ap (λ (x : List ℕ). b ∷ x) (fixed_takes ws bytes rest t.1))

-- fixed bytes, and what is read behind them
pub fixed_then : {B : Type 0} (w bytes : List ℕ) {f : List ℕ → Option B} {y : B}
    → (fixed_at w bytes >>= f) ≡ Some y
    → (rest : List ℕ) × (bytes ≡ w ++ rest) × (f rest ≡ Some y)
fixed_then w bytes e = let s = bind_some e in (s.0, fixed_takes w bytes s.0 s.1, s.2)

-- what is read part by part
pub behind : {bytes rest more : List ℕ} (w : List ℕ) → bytes ≡ w ++ rest → rest ≡ more
    → bytes ≡ w ++ more
behind w e f = e ∙ ap (λ (t : List ℕ). w ++ t) f

pub same_byte : (b : ℕ) → (b == b) ≡ true
same_byte b = grind (arith, nat_tests)

pub fixed_again : (w rest : List ℕ) → fixed_at w (w ++ rest) ≡ Some rest
unfolding fixed_at
fixed_again [] rest = refl
fixed_again (w ∷ ws) rest = rw (same_byte w) (fixed_again ws rest)

-- ---- digits

digit_is : (b : ℕ) → is_digit b ≡ true → (48 ≤ b) × (b ≤ 57) × (48 + (b - 48) ≡ b)
digit_is b e = let h : (48 ≤ b) × (b ≤ 57) = grind (arith, nat_tests) in (h.0, h.1, omega arith)

is_digit_again : (d : ℕ) → d < 10 → is_digit (48 + d) ≡ true
is_digit_again d lt = grind (arith, nat_tests)

-- ---- the further digits

abbrev pub Longer : ℕ → ℕ → List ℕ → List ℕ → Type 0
Longer n m bytes rest = (t : List ℕ) × (bytes ≡ t ++ rest) × (decimal m ≡ decimal n ++ t)

one_more : (n d : ℕ) → 0 < n → 10 * n + d < 2 ^ 64 → d < 10
    → decimal (10 * n + d) ≡ decimal n ++ (48 + d) ∷ []
one_more n d pos fits lt =
    let q : (10 * n + d) / 10 ≡ n = omega arith in
    let r : (10 * n + d) % 10 ≡ d = omega arith in
    decimal_step (10 * n + d) (omega arith) fits ∙ rw (q, r) refl

-- no further digit
no_more : (limit n m : ℕ) (bytes rest : List ℕ) → n < limit
    → ◌≡◌ {A = Option (ℕ × List ℕ)} (Some (n, bytes)) (Some (m, rest))
    → Longer n m bytes rest × (m < limit)
no_more limit n m bytes rest lt e =
    let p = some_pair_parts _ _ _ _ e in
    rw (← p.0) (([], p.1, sym (append-nil (decimal n))), lt)

more_takes : (limit n : ℕ) (bytes : List ℕ) (m : ℕ) (rest : List ℕ) → 0 < n → n < limit
    → limit ≤ 2 ^ 16 → more_at limit n bytes ≡ Some (m, rest) → Longer n m bytes rest × (m < limit)
unfolding more_at
more_takes limit n [] m rest pos lt small e = no_more limit n m [] rest lt e
more_takes limit n (b ∷ bytes) m rest pos lt small e =
    elim (chosen (is_digit b)
    (cond (nat_lt (10 * n + (b - 48)) limit) (more_at limit (10 * n + (b - 48)) bytes) None)
    (Some (n, b ∷ bytes)) (Some (m, rest)) e) [
      | inl c ↦
          let d = digit_is b c.0 in
          let t = test_some c.1 in
          let below : 10 * n + (b - 48) < limit = ltb-true _ _ t.0 in
          let r = more_takes limit (10 * n + (b - 48)) bytes m rest (omega arith) below small t.1 in
          let step = one_more n (b - 48) pos (omega arith) (omega arith) in
          let grouped = append_assoc (decimal n) (b ∷ []) r.0.0 in
          ((b ∷ r.0.0, cc, cc), r.1)
      | inr c ↦ no_more limit n m (b ∷ bytes) rest lt c.1
    ]

pub number_takes : (limit : ℕ) (bytes : List ℕ) (m : ℕ) (rest : List ℕ) → 0 < limit → limit ≤ 2 ^ 16
    → number_at limit bytes ≡ Some (m, rest) → (bytes ≡ decimal m ++ rest) × (m < limit)
unfolding number_at
number_takes limit [] m rest low small e = absurd cc
number_takes limit (b ∷ bytes) m rest low small e =
    elim (chosen (b == 48) (Some (0, bytes))
    (cond (is_digit b) (cond (nat_lt (b - 48) limit) (more_at limit (b - 48) bytes) None) None)
    (Some (m, rest)) e) [
      | inl c ↦
          let p = some_pair_parts _ _ _ _ c.1 in
          rw (← p.0) (rw (eqb-true b 48 c.0, p.1, decimal_digit 0 (omega arith)) refl, low)
      | inr c ↦
          let digit = test_some c.1 in
          let d = digit_is b digit.0 in
          let t = test_some digit.1 in
          let below : b - 48 < limit = ltb-true _ _ t.0 in
          let other : b ≢ 48 = eqb-false b 48 c.0 in
          let r = more_takes limit (b - 48) bytes m rest (omega arith) below small t.1 in
          let first = decimal_digit (b - 48) (omega arith) in
          let whole = rw (first, d.2) at r.0.2 in
          (ap (λ x. b ∷ x) r.0.1 ∙ sym (ap (λ x. x ++ rest) whole), r.1)
    ]

-- ---- and back

more_stops : (limit n s : ℕ) (rest : List ℕ) → is_digit s ≡ false
    → more_at limit n (s ∷ rest) ≡ Some (n, s ∷ rest)
unfolding more_at
more_stops limit n s rest e = rw e refl

abbrev Begins : ℕ → ℕ → List ℕ → Type 0
Begins limit n ds = 0 < n → n < limit → (rest : List ℕ)
    → number_at limit (ds ++ rest) ≡ more_at limit n rest

begins_one : (limit n : ℕ) → n < 10 → Begins limit n ((48 + n) ∷ [])
unfolding number_at
begins_one limit n lt pos small rest =
    let other : ((48 + n) == 48) ≡ false = grind (arith, nat_tests) in
    let v : 48 + n - 48 ≡ n = omega arith in
    let fits : nat_lt n limit ≡ true = lt-ltb n limit small in
    rw (other, is_digit_again n lt, v, fits) refl

begins_more : (limit n : ℕ) (ds : List ℕ) → 10 ≤ n → Begins limit (n / 10) ds
    → Begins limit n (ds ++ (48 + n % 10) ∷ [])
unfolding more_at
begins_more limit n ds le h pos small rest =
    let v : 48 + n % 10 - 48 ≡ n % 10 = omega arith in
    let whole : 10 * (n / 10) + n % 10 ≡ n = omega arith in
    rw append_assoc (h (omega arith) (omega arith) ((48 + n % 10) ∷ rest)
    ∙ rw (is_digit_again (n % 10) (omega arith), v, whole, lt-ltb n limit small) refl)

number_zero : (limit : ℕ) (rest : List ℕ) → number_at limit (decimal 0 ++ rest) ≡ Some (0, rest)
unfolding number_at
number_zero limit rest = rw (decimal_digit 0 (omega arith)) refl

pub number_again : (limit n s : ℕ) (rest : List ℕ) → n < limit → limit ≤ 2 ^ 16 → is_digit s ≡ false
    → number_at limit (decimal n ++ s ∷ rest) ≡ Some (n, s ∷ rest)
number_again limit zero s rest lt small e = number_zero limit (s ∷ rest)
number_again limit (suc n) s rest lt small e =
    decimal_by_steps (Begins limit) (begins_one limit) (begins_more limit) (suc n) (omega arith)
    (omega arith) lt (s ∷ rest) ∙ more_stops limit (suc n) s rest e
