-- Codes and their lines, read and written.
-- What is read is spelled by `code_text`, digit by digit, and what that spells is read.
use Rattle.std.proofs.Common.{◌≡◌, ◌≢◌, ℕ, zero, suc, ◌-◌, ◌<◌, ◌≤◌, cond, nat_le, ◌&&◌, ◌==◌, List, [], ◌∷◌, ◌++◌, map, length, get_or, Some, None, refl, sym, ap, ◌∙◌, arith, inl, inr, ◌⊎◌, Option}
use Rattle.std.specs.List.{AllByRecursion}
use Rattle.std.proofs.lemmas.Bool.{eqb-true, eqb-false, ltb-false, le-ltb, ne_eqb}
use Rattle.std.proofs.lemmas.Option.{some_pair_parts}
use Rattle.std.proofs.lemmas.Bool.Decides.{nat_tests}
use Rattle.std.proofs.lemmas.List.Elements.{All-from_recursion, recursion_from_All}
use Rattle.misere_theory.specs.Games.{IsCode, IsFirstDigit}
use Rattle.octal_code.specs.Text.{code_text, digit_byte}
use Rattle.certificate_text.specs.Reading.{with_front, code_digit_at, code_digits_at, code_at, digits_behind, code_line_at}
use Rattle.certificate_text.proofs.Numbers.{bind_some, test_some, test_none, chosen, fixed_again, fixed_then}
use Rattle.certificate_text.proofs.Fields.{otherwise_some}

-- ---- codes

abbrev pub IsDigit : ℕ → Type 0
IsDigit d = d < 16

digit_takes : (bytes : List ℕ) (d : ℕ) (rest : List ℕ) → code_digit_at bytes ≡ Some (d, rest)
    → (bytes ≡ digit_byte d ∷ rest) × IsDigit d
unfolding code_digit_at
digit_takes [] d rest e = absurd cc
digit_takes (b ∷ bytes) d rest e =
    elim (chosen (nat_le 48 b && nat_le b 57) (Some (b - 48, bytes))
    (cond (nat_le 97 b && nat_le b 102) (Some (b - 87, bytes)) None) (Some (d, rest)) e) [
      | inl c ↦ spelled (b - 48) (some_pair_parts _ _ _ _ c.1) (let u = c.0 in grind (arith, nat_tests))
      | inr c ↦
          let t = test_some c.1 in
          spelled (b - 87) (some_pair_parts _ _ _ _ t.1) (let u = t.0 in grind (arith, nat_tests))
    ]
  where
    spelled : (v : ℕ) → (v ≡ d) × (bytes ≡ rest) → (b ≡ digit_byte v) × (v < 16)
        → (b ∷ bytes ≡ digit_byte d ∷ rest) × (d < 16)
    spelled v p h = rw (← p.0, p.1, h.0) (refl, h.1)

digit_again : (d : ℕ) (rest : List ℕ) → IsDigit d
    → code_digit_at (digit_byte d ∷ rest) ≡ Some (d, rest)
unfolding code_digit_at
digit_again d rest lt = grind (arith, nat_tests)

digit_is_no_lf : (d : ℕ) → digit_byte d ≢ 10
digit_is_no_lf d = grind (arith, nat_tests)

no_digit : (rest : List ℕ) → code_digit_at (10 ∷ rest) ≡ None
unfolding code_digit_at
no_digit rest = refl

digits_take : (room : ℕ) (bytes ds rest : List ℕ) → code_digits_at room bytes ≡ Some (ds, rest)
    → (bytes ≡ map digit_byte ds ++ rest) × (length ds ≤ room) × AllByRecursion IsDigit ds
unfolding code_digits_at
digits_take zero bytes ds rest e =
    let p = some_pair_parts _ _ _ _ e in rw (← p.0) (p.1, omega arith, tt)
digits_take (suc room) bytes ds rest e =
    elim (otherwise_some (code_digit_at bytes) (Some ([], bytes))
    (λ d. with_front (d.0 ∷ []) (code_digits_at room d.1)) (ds, rest) e) [
      | inl c ↦ let p = some_pair_parts _ _ _ _ c.1 in rw (← p.0) (p.1, omega arith, tt)
      | inr c ↦
          let ys = bind_some c.2 in
          let dt = digit_takes _ _ _ c.1 in
          let yt = digits_take room _ _ _ ys.1 in
          let p = some_pair_parts _ _ _ _ ys.2 in
          rw (← p.0) (cc, omega arith, (dt.1, yt.2))
    ]

digits_again : (room : ℕ) (ds rest : List ℕ) → length ds ≤ room → AllByRecursion IsDigit ds
    → code_digits_at room (map digit_byte ds ++ 10 ∷ rest) ≡ Some (ds, 10 ∷ rest)
unfolding code_digits_at
digits_again zero [] rest le all = refl
digits_again zero (d ∷ ds) rest le all = absurd (omega arith)
digits_again (suc room) [] rest le all = rw (no_digit rest) refl
digits_again (suc room) (d ∷ ds) rest le all =
    rw (
      digit_again d (map digit_byte ds ++ 10 ∷ rest) all.0,
      digits_again room ds rest (omega arith) all.1,
    ) refl

-- ---- whole codes

-- the last digit of a code
last_place : (d : ℕ) (ds : List ℕ) → 1 ≤ length ds
    → get_or (d ∷ ds) (length (d ∷ ds) - 1) 0 ≡ get_or ds (length ds - 1) 0
last_place d [] some = absurd (omega arith)
last_place d (x ∷ xs) some =
    let a : length (d ∷ x ∷ xs) - 1 ≡ suc (length xs) = omega arith in
    let b : length (x ∷ xs) - 1 ≡ length xs = omega arith in
    rw (a, b) refl

behind_takes : (d : ℕ) (bytes ds rest : List ℕ) → IsFirstDigit d
    → digits_behind d bytes ≡ Some (ds, rest) → (digit_byte d ∷ bytes ≡ code_text ds ++ rest)
    × IsCode ds
unfolding digits_behind
behind_takes d bytes ds rest first e =
    let point = fixed_then _ _ e in
    let all = bind_some point.2 in
    let digits = bind_some all.1 in
    let long = test_none all.2 in
    let last = test_none long.1 in
    let dt = digits_take _ _ _ _ digits.1 in
    let p = some_pair_parts _ _ _ _ digits.2 in
    let q = some_pair_parts _ _ _ _ last.1 in
    let two = ltb-false _ 2 long.0 in
    let some : 1 ≤ length digits.0.0 = let n = ap length p.0 in omega arith in
    let same = ap (λ xs. get_or xs (length xs - 1) 0) p.0 in
    rw (← q.0, ← p.0) (
      cc,
      (
        first,
        some,
        dt.1,
        All-from_recursion (λ x. x < 16) digits.0.0 dt.2,
        λ none. eqb-false _ 0 last.0 (sym same ∙ last_place d digits.0.0 some ∙ none),
      ),
    )

-- the first digit d, whose byte is at_, or one of the others
first_or : (b at_ d : ℕ) (bytes ds rest : List ℕ) (others : Option (List ℕ × List ℕ))
    → IsFirstDigit d → at_ ≡ digit_byte d
    → cond (b == at_) (digits_behind d bytes) others ≡ Some (ds, rest)
    → ((b ∷ bytes ≡ code_text ds ++ rest) × IsCode ds) ⊎ (others ≡ Some (ds, rest))
first_or b at_ d bytes ds rest others first is e =
    elim (chosen (b == at_) (digits_behind d bytes) others (Some (ds, rest)) e) [
      | inl c ↦ let t = behind_takes d bytes ds rest first c.1 in
          inl (rw (eqb-true b at_ c.0, is) t.0, t.1)
      | inr c ↦ inr c.1
    ]

pub code_takes : (bytes ds rest : List ℕ) → code_at bytes ≡ Some (ds, rest)
    → (bytes ≡ code_text ds ++ rest) × IsCode ds
unfolding code_at
code_takes [] ds rest e = absurd cc
code_takes (b ∷ bytes) ds rest e =
    elim (first_or b 48 0 bytes ds rest _ (inl refl) refl e) [
      | inl t ↦ t
      | inr f ↦ elim (first_or b 52 4 bytes ds rest _ (inr (inl refl)) refl f) [
        | inl t ↦ t
        | inr g ↦ elim (first_or b 56 8 bytes ds rest _ (inr (inr (inl refl))) refl g) [
          | inl t ↦ t
          | inr h ↦ elim (first_or b 99 12 bytes ds rest _ (inr (inr (inr refl))) refl h)
              [ inl t ↦ t | inr none ↦ absurd cc ]
        ]
      ]
    ]

behind_again : (d : ℕ) (ds rest : List ℕ) → IsCode (d ∷ ds)
    → digits_behind d (46 ∷ (map digit_byte ds ++ 10 ∷ rest)) ≡ Some (d ∷ ds, 10 ∷ rest)
unfolding digits_behind
behind_again d ds rest h =
    rw (
      fixed_again (46 ∷ []) (map digit_byte ds ++ 10 ∷ rest),
      digits_again 16 ds rest h.2 (recursion_from_All (λ x. x < 16) ds h.3),
      le-ltb (length (d ∷ ds)) 2 (omega (arith, h.1)),
      last_place d ds h.1,
      ne_eqb _ 0 h.4,
    ) refl

pub code_again : (ds rest : List ℕ) → IsCode ds
    → code_at (code_text ds ++ 10 ∷ rest) ≡ Some (ds, 10 ∷ rest)
unfolding code_at
code_again [] rest h = absurd h
code_again (d ∷ ds) rest h =
    elim h.0 [
      | inl is ↦ from 0 is (λ k. behind_again 0 ds rest k)
      | inr f ↦ elim f [
        | inl is ↦ from 4 is (λ k. behind_again 4 ds rest k)
        | inr g ↦ elim g [
          | inl is ↦ from 8 is (λ k. behind_again 8 ds rest k)
          | inr is ↦ from 12 is (λ k. behind_again 12 ds rest k)
        ]
      ]
    ]
  where
    from : (x : ℕ) → d ≡ x → (IsCode (x ∷ ds) → code_at (code_text (x ∷ ds) ++ 10 ∷ rest)
        ≡ Some (x ∷ ds, 10 ∷ rest)) → code_at (code_text (d ∷ ds) ++ 10 ∷ rest)
        ≡ Some (d ∷ ds, 10 ∷ rest)
    from x is f = rw is (f (rw (← is) h))

-- ---- the code's line

has_no_lf : (ds : List ℕ) → AllByRecursion IsDigit ds
    → AllByRecursion (λ b. b ≢ 10) (map digit_byte ds)
has_no_lf [] all = tt
has_no_lf (d ∷ ds) all = (digit_is_no_lf d, has_no_lf ds all.1)

pub code_has_no_lf : (ds : List ℕ) → IsCode ds → AllByRecursion (λ b. b ≢ 10) (code_text ds)
code_has_no_lf [] h = absurd h
code_has_no_lf (d ∷ ds) h = (
  digit_is_no_lf d,
  (λ e. absurd (omega arith), has_no_lf ds (recursion_from_All (λ x. x < 16) ds h.3)),
)

pub code_line_takes : (bytes ds rest : List ℕ) → code_line_at bytes ≡ Some (ds, rest)
    → (bytes ≡ code_text ds ++ 10 ∷ rest) × IsCode ds
unfolding code_line_at
code_line_takes bytes ds rest e =
    let code = bind_some e in
    let ended = fixed_then _ _ code.2 in
    let ct = code_takes _ _ _ code.1 in
    let p = some_pair_parts _ _ _ _ ended.2 in
    rw (← p.0) (cc, ct.1)

pub code_line_again : (ds rest : List ℕ) → IsCode ds → code_line_at (code_text ds ++ 10 ∷ rest)
    ≡ Some (ds, rest)
unfolding code_line_at
code_line_again ds rest h = rw (code_again ds rest h, fixed_again (10 ∷ []) rest) refl
