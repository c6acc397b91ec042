-- Powers of letters: what is read stood there, and what stands there is read.
use Rattle.std.proofs.Common.{◌≡◌, ◌≢◌, ◌⊎◌, ℕ, zero, suc, ◌+◌, ◌<◌, ◌≤◌, false, List, [], ◌∷◌, ◌++◌, length, Some, None, refl, sym, ap, ◌∙◌, append_assoc, inl, inr, arith}
use Rattle.std.specs.Fmt.{decimal}
use Rattle.std.specs.List.{AllByRecursion}
use Rattle.std.proofs.lemmas.Bool.{ltb-false, le-ltb, lt-leb, ne_eqb, and_right}
use Rattle.std.proofs.lemmas.Option.{some_pair_parts}
use Rattle.certificate_text.specs.Reading.{otherwise, fixed_at, is_digit}
use Rattle.certificate_text.proofs.Numbers.{bind_some, test_none, fixed_takes, fixed_again, number_takes, number_again, behind}
use Rattle.certificate_text.proofs.Fields.{otherwise_some}
use Rattle.presented_text.specs.declared.TheConstants.{LARGEST_POWER}
use Rattle.presented_text.specs.Spelled.{power_text, powers_text}
use Rattle.presented_text.specs.Read.{exponent_at, power_at, powers_at}

raised : (letter x : ℕ) → 2 ≤ x → power_text letter x ≡ (97 + letter) ∷ 94 ∷ decimal x
raised letter zero le = absurd (omega (arith, le))
raised letter (suc zero) le = absurd (omega (arith, le))
raised letter (suc (suc k)) le = refl

exponent_takes : (bytes : List ℕ) (x : ℕ) (rest : List ℕ) → exponent_at bytes ≡ Some (x, rest)
    → (bytes ≡ decimal x ++ rest) × (2 ≤ x) × (x ≤ LARGEST_POWER)
unfolding exponent_at
exponent_takes bytes x rest e =
    let number = bind_some e in
    let t = test_none number.2 in
    let nt = number_takes _ _ _ _ (omega arith) (omega arith) number.1 in
    let p = some_pair_parts number.0.0 x number.0.1 rest t.1 in
    rw (← p.0) (
      behind (decimal number.0.0) nt.0 p.1,
      ltb-false _ _ t.0,
      let below : number.0.0 < LARGEST_POWER + 1 = nt.1 in omega (arith, below),
    )

pub power_takes : (letter : ℕ) (bytes : List ℕ) (x : ℕ) (rest : List ℕ)
    → power_at letter bytes ≡ Some (x, rest)
    → (bytes ≡ power_text letter x ++ rest) × (x ≤ LARGEST_POWER)
unfolding power_at
power_takes letter bytes x rest e =
    elim (otherwise_some (fixed_at ((97 + letter) ∷ []) bytes) (Some (0, bytes))
    (λ after. otherwise (fixed_at (94 ∷ []) after) (Some (1, after)) exponent_at) (x, rest) e) [
      | inl none ↦ let p = some_pair_parts 0 x bytes rest none.1 in rw (← p.0) (p.1, omega arith)
      | inr some ↦
          let after = some.0 in
          let st = fixed_takes _ _ _ some.1 in
          elim (otherwise_some (fixed_at (94 ∷ []) after) (Some (1, after)) exponent_at (x, rest) some.2) [
            | inl one ↦
                let p = some_pair_parts 1 x after rest one.1 in
                rw (← p.0) (behind ((97 + letter) ∷ []) st p.1, omega arith)
            | inr more ↦
                let ct = fixed_takes _ _ _ more.1 in
                let nt = exponent_takes more.0 x rest more.2 in (
                  rw (raised letter x nt.1) (behind ((97 + letter) ∷ []) st (behind (94 ∷ []) ct nt.0)),
                  nt.2,
                )
          ]
    ]

-- What may come after the powers of the letters before this one: no digit, and no letter before it.
abbrev pub IsAfter : ℕ → ℕ → Type 0
IsAfter letter t = (t < 48) ⊎ (97 + letter ≤ t)

after_digits : (letter t : ℕ) → IsAfter letter t → is_digit t ≡ false
after_digits letter t (inl low) = rw (lt-leb 48 t low) refl
after_digits letter t (inr high) = and_right _ _ (lt-leb t 57 (omega (arith, high)))

pub no_fixed : (b t : ℕ) (rest : List ℕ) → b ≢ t → fixed_at (b ∷ []) (t ∷ rest) ≡ None
unfolding fixed_at
no_fixed b t rest other = rw (ne_eqb b t other) refl

power_again : (letter x t : ℕ) (rest : List ℕ) → x ≤ LARGEST_POWER → IsAfter (suc letter) t
    → power_at letter (power_text letter x ++ t ∷ rest) ≡ Some (x, t ∷ rest)
unfolding power_at exponent_at
power_again letter zero t rest few after =
    rw (no_fixed (97 + letter) t rest (other after)) refl
  where
    other : IsAfter (suc letter) t → 97 + letter ≢ t
    other (inl low) e = omega (arith, low, e)
    other (inr high) e = omega (arith, high, e)
power_again letter (suc zero) t rest few after =
    rw (fixed_again ((97 + letter) ∷ []) (t ∷ rest), no_fixed 94 t rest (other after)) refl
  where
    other : IsAfter (suc letter) t → 94 ≢ t
    other (inl low) e = omega (arith, low, e)
    other (inr high) e = omega (arith, high, e)
power_again letter (suc (suc k)) t rest few after =
    rw (
      fixed_again ((97 + letter) ∷ []) (94 ∷ (decimal (suc (suc k)) ++ t ∷ rest)),
      fixed_again (94 ∷ []) (decimal (suc (suc k)) ++ t ∷ rest),
      number_again (LARGEST_POWER + 1) (suc (suc k)) t rest (omega (arith, few)) (omega arith)
          (after_digits (suc letter) t after),
      le-ltb (suc (suc k)) 2 (omega arith),
    ) refl

-- ---- the powers of letters one after another

pub powers_take : (letter n : ℕ) (bytes xs rest : List ℕ) → powers_at letter n bytes ≡ Some (xs, rest)
    → (bytes ≡ powers_text letter xs ++ rest) × (length xs ≡ n)
    × AllByRecursion (λ x. x ≤ LARGEST_POWER) xs
unfolding powers_at
powers_take letter zero bytes xs rest e =
    let p = some_pair_parts _ _ _ _ e in rw (← p.0) (p.1, refl, tt)
powers_take letter (suc n) bytes xs rest e =
    let x = bind_some e in
    let ys = bind_some x.2 in
    let xt = power_takes letter bytes x.0.0 x.0.1 x.1 in
    let yt = powers_take (suc letter) n x.0.1 ys.0.0 ys.0.1 ys.1 in
    let p = some_pair_parts (x.0.0 ∷ ys.0.0) xs ys.0.1 rest ys.2 in
    rw (← p.0) (
      xt.0 ∙ ap (λ (t : List ℕ). power_text letter x.0.0 ++ t)
          (yt.0 ∙ ap (λ (t : List ℕ). powers_text (suc letter) ys.0.0 ++ t) p.1)
          ∙ sym (append_assoc (power_text letter x.0.0) (powers_text (suc letter) ys.0.0) rest),
      ap suc yt.1,
      (xt.1, yt.2),
    )

-- a text that begins with what may come after
pub record Begins (letter : ℕ) (bytes : List ℕ) : Type 0 where
  pub first : ℕ
  pub more : List ℕ
  pub is : bytes ≡ first ∷ more
  pub after : IsAfter letter first

weaker : (letter : ℕ) (bytes : List ℕ) → Begins (suc letter) bytes → Begins letter bytes
weaker letter bytes b = record {
  first = b.first;
  more = b.more;
  is = b.is;
  after =
      elim b.after [
        | inl low ↦ inl low
        | inr high ↦ inr (omega (arith, high))
      ];
}

pub begins : (letter : ℕ) (word : List ℕ) (s : ℕ) (rest : List ℕ) → s < 48
    → Begins letter (powers_text letter word ++ s ∷ rest)
begins letter [] s rest low = record { first = s; more = rest; is = refl; after = inl low }
begins letter (zero ∷ word) s rest low =
    weaker letter (powers_text (suc letter) word ++ s ∷ rest) (begins (suc letter) word s rest low)
begins letter (suc zero ∷ word) s rest low = record {
  first = 97 + letter;
  more = powers_text (suc letter) word ++ s ∷ rest;
  is = refl;
  after = inr (omega arith);
}
begins letter (suc (suc k) ∷ word) s rest low = record {
  first = 97 + letter;
  more = 94 ∷ ((decimal (suc (suc k)) ++ powers_text (suc letter) word) ++ s ∷ rest);
  is = refl;
  after = inr (omega arith);
}

pub powers_again : (letter : ℕ) (word : List ℕ) (s : ℕ) (rest : List ℕ) → s < 48
    → AllByRecursion (λ x. x ≤ LARGEST_POWER) word
    → powers_at letter (length word) (powers_text letter word ++ s ∷ rest) ≡ Some (word, s ∷ rest)
unfolding powers_at
powers_again letter [] s rest low few = refl
powers_again letter (x ∷ word) s rest low few =
    let next = begins (suc letter) word s rest low in
    let one : power_at letter (power_text letter x ++ (powers_text (suc letter) word ++ s ∷ rest))
    ≡ Some (x, powers_text (suc letter) word ++ s ∷ rest) =
    rw next.is (power_again letter x next.first next.more few.0 next.after)
    in
    rw (
      append_assoc (power_text letter x) (powers_text (suc letter) word) (s ∷ rest),
      one,
      powers_again (suc letter) word s rest low few.1,
    ) refl
