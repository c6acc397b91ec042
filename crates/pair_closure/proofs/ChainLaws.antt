-- Walks along the chain of a value.
-- Each member leads to the last one before it that has its value. A walk leaves out no member that
-- passes the test.
use Rattle.std.proofs.Common.{◌≡◌, ℕ, zero, suc, ◌+◌, ◌-◌, ◌<◌, ◌≤◌, Bool, true, false, cond, List, [], ◌∷◌, ◌++◌, length, get_or, set, refl, sym, ap, ◌∙◌, subst, inl, inr, arith, nat_eq, eqb-true, eq-eqb, length-append}
use Rattle.std.specs.List.{list_any}
use Rattle.std.proofs.lemmas.Bool.{cases_lt, cases_eq, cond_both, cond-true, cond-false, false_from_ne_true}
use Rattle.std.proofs.lemmas.List.{get_or_append_left, get_or_default, get_or_push, get_or-set_same, get_or-set_other}
use Rattle.transition_algebra.specs.OverSets.{Pair}
use Rattle.pair_closure.specs.OverSets.{Member}
use Rattle.pair_closure.specs.Chains.{AreChained, blank, last_with}
use Rattle.transition_algebra.specs.Pairs.{covers}
use Rattle.pair_closure.proofs.PairLaws.{covering}
use Rattle.pair_closure.proofs.Lists.{find_any, not_both}

abbrev value_at : List Member → ℕ → ℕ
value_at ms i = (get_or ms i blank).pair.value

pub last-le : (ms : List Member) (v n : ℕ) → last_with ms v n ≤ n
last-le ms v zero = omega arith
last-le ms v (suc n) =
    let h = last-le ms v n in
    cond_both (nat_eq (value_at ms n) v) (suc n) (last_with ms v n) (λ z. z ≤ suc n)
    (λ _. omega arith) (λ _. omega arith)

-- the member there has the value
pub last-is : (ms : List Member) (v n : ℕ) → 0 < last_with ms v n
    → value_at ms (last_with ms v n - 1) ≡ v
last-is ms v zero = λ h. absurd (omega arith)
last-is ms v (suc n) =
    cond_both (nat_eq (value_at ms n) v) (suc n) (last_with ms v n)
    (λ z. 0 < z → value_at ms (z - 1) ≡ v)
    (λ e h. let q : n ≡ suc n - 1 = omega arith in rw q at (eqb-true _ _ e))
    (λ _. last-is ms v n)

-- no later one has it
pub last-skips : (ms : List Member) (v n k : ℕ) → last_with ms v n ≤ k → k < n → value_at ms k ≡ v
    → ⊥
last-skips ms v zero k a l e = omega arith
last-skips ms v (suc n) k a l e =
    cond_both (nat_eq (value_at ms n) v) (suc n) (last_with ms v n) (λ z. z ≤ k → ⊥)
    (λ _ a. omega arith)
    (λ q a. elim (cases_lt k n) [
      | inl h ↦ last-skips ms v n k a h e
      | inr h ↦ let r : n ≡ k = omega arith in not_both (eq-eqb _ _ (ap (value_at ms) r ∙ e)) q
    ]) a

-- places that are the same below n
pub last-same : (ms ns : List Member) (v n : ℕ) → ((k : ℕ) → k < n → value_at ms k ≡ value_at ns k)
    → last_with ms v n ≡ last_with ns v n
last-same ms ns v zero h = refl
last-same ms ns v (suc n) h =
    ap (λ z. cond (nat_eq z v) (suc n) (last_with ms v n)) (h n (omega arith))
    ∙ ap (cond (nat_eq (value_at ns n) v) (suc n))
    (last-same ms ns v n (λ k l. h k (omega arith)))

-- a walk has passed no member that passes the test
pub record IsAt (ms : List Member) (v : ℕ) (test : Pair → Bool) (at : ℕ) : Type 0 where
  pub within : at ≤ length ms
  pub value : 0 < at → value_at ms (at - 1) ≡ v
  pub passed : (k : ℕ) → at ≤ k → k < length ms → test (get_or ms k blank).pair ≡ false

-- only members of the value pass the test
abbrev pub OfValue : (Pair → Bool) → ℕ → Type 0
OfValue test v = (p : Pair) → test p ≡ true → p.value ≡ v

pub covering_of : (x : Pair) → OfValue (λ p. covers p x) x.value
covering_of x p e = (covering p x e).value

pub covered_of : (x : Pair) → OfValue (λ p. covers x p) x.value
covered_of x p e = sym (covering x p e).value

fails_off : (test : Pair → Bool) (v : ℕ) → OfValue test v → (p : Pair) → (p.value ≡ v → ⊥)
    → test p ≡ false
fails_off test v of p h = false_from_ne_true (test p) (λ t. h (of p t))

pub walk_from : (ms : List Member) (v : ℕ) (test : Pair → Bool) (at : ℕ) → OfValue test v
    → at ≡ last_with ms v (length ms) → IsAt ms v test at
walk_from ms v test at of e = subst (IsAt ms v test) (sym e) (record {
  within = last-le ms v (length ms);
  value = last-is ms v (length ms);
  passed = λ k a l. fails_off test v of _ (last-skips ms v (length ms) k a l);
})

walk_on : (ms : List Member) (v : ℕ) (test : Pair → Bool) (at next : ℕ) → OfValue test v
    → IsAt ms v test at → 0 < at → test (get_or ms (at - 1) blank).pair ≡ false
    → next ≡ last_with ms (value_at ms (at - 1)) (at - 1) → IsAt ms v test next
walk_on ms v test at next of w some fails e =
    let f : next ≡ last_with ms v (at - 1) = e ∙ ap (λ z. last_with ms z (at - 1)) (w.value some) in
    let in_all = w.within in
    subst (IsAt ms v test) (sym f) (record {
      within = let h = last-le ms v (at - 1) in omega arith;
      value = last-is ms v (at - 1);
      passed = λ k a l. elim (cases_lt k (at - 1)) [
        | inl h ↦ fails_off test v of _ (last-skips ms v (at - 1) k a h)
        | inr h ↦ elim (cases_eq k (at - 1)) [
          | inl q ↦ subst (λ j. test (get_or ms j blank).pair ≡ false) (sym q) fails
          | inr q ↦ w.passed k (omega arith) l
        ]
      ];
    })

pub walk_ends : (ms : List Member) (v : ℕ) (test : Pair → Bool) (at : ℕ) → IsAt ms v test at
    → at ≡ 0 → false ≡ list_any (λ m. test m.pair) ms
walk_ends ms v test at w e =
    sym (false_from_ne_true _ (λ t. let (k, l, p) = find_any (λ m. test m.pair) ms blank t in
    not_both p (w.passed k (omega arith) l)))

-- one member more
pub chained_push : (ms : List Member) (older newest : List ℕ) (m : Member)
    → AreChained ms older newest → m.pair.value < length newest
    → AreChained (ms ++ m ∷ []) (older ++ get_or newest m.pair.value 0 ∷ [])
    (set newest m.pair.value (length ms + 1))
chained_push ms older newest m w l =
    let n = length ms in
    let more : length (ms ++ m ∷ []) ≡ suc n = omega (arith, length-append ms (m ∷ [])) in
    let new : get_or (ms ++ m ∷ []) n blank ≡ m = get_or_push ms m blank n refl in
    let same : (k : ℕ) → k < n → value_at ms k ≡ value_at (ms ++ m ∷ []) k =
    λ k h. ap (λ z. z.pair.value) (sym (get_or_append_left ms (m ∷ []) blank k h)) in
    let len = w.length_is in
    record {
      length_is =
          omega (
            arith,
            length-append ms (m ∷ []),
            length-append older (get_or newest m.pair.value 0 ∷ []),
          );
      before = λ i h. elim (cases_lt i n) [
        | inl k ↦
            get_or_append_left older (get_or newest m.pair.value 0 ∷ []) 0 i (omega arith)
            ∙ w.before i k ∙ ap (λ z. last_with ms z i) (same i k)
            ∙ last-same ms (ms ++ m ∷ []) _ i (λ j p. same j (omega arith))
        | inr k ↦
            let q : i ≡ n = omega arith in
            get_or_push older (get_or newest m.pair.value 0) 0 i (len ∙ sym q) ∙ w.last m.pair.value
            ∙ last-same ms (ms ++ m ∷ []) _ n same
            ∙ ap (λ z. last_with (ms ++ m ∷ []) z.pair.value n) (sym new)
            ∙ ap (λ j. last_with (ms ++ m ∷ []) (value_at (ms ++ m ∷ []) j) j) (sym q)
      ];
      last = λ v. elim (cases_eq v m.pair.value) [
        | inl q ↦
            let one : n + 1 ≡ suc n = omega arith in
            ap (λ z. get_or (set newest m.pair.value (n + 1)) z 0) q
            ∙ get_or-set_same newest m.pair.value (n + 1) 0 l ∙ one
            ∙ sym (cond-true (nat_eq (value_at (ms ++ m ∷ []) n) v) _ _
            (eq-eqb _ _ (ap (λ z. z.pair.value) new ∙ sym q))) ∙ ap (last_with (ms ++ m ∷ []) v)
            (sym more)
        | inr q ↦
            get_or-set_other newest m.pair.value v (n + 1) 0 q ∙ w.last v
            ∙ last-same ms (ms ++ m ∷ []) v n same
            ∙ sym (cond-false (nat_eq (value_at (ms ++ m ∷ []) n) v) (suc n) _
            (false_from_ne_true _ (λ t. q (sym (eqb-true _ _ t) ∙ ap (λ z. z.pair.value) new))))
            ∙ ap (last_with (ms ++ m ∷ []) v) (sym more)
      ];
    }

-- longer heads with nothing in them
pub chained_reach : (ms : List Member) (older newest others : List ℕ)
    → ((v : ℕ) → get_or others v 0 ≡ get_or newest v 0) → AreChained ms older newest
    → AreChained ms older others
chained_reach ms older newest others h w =
    record { length_is = w.length_is; before = w.before; last = λ v. h v ∙ w.last v }

-- a step of a walk, by what it reads: it goes on, to an earlier member
pub walk_step : {ms : List Member} {older newest : List ℕ} {v : ℕ} {test : Pair → Bool} {at : ℕ}
    (m : Member) (next : ℕ) → OfValue test v → AreChained ms older newest → IsAt ms v test at
    → 0 < at → m ≡ get_or ms (at - 1) m → test m.pair ≡ false → next ≡ get_or older (at - 1) next
    → IsAt ms v test next × (next < at)
walk_step {ms = ms} {older = older} {v = v} {test = test} {at = at} m next of chain w some e fails f =
    let l = w.within in
    let k = chain.length_is in
    let here : m ≡ get_or ms (at - 1) blank = e ∙ get_or_default ms (at - 1) m blank (omega arith) in
    let is : next ≡ last_with ms (value_at ms (at - 1)) (at - 1) =
    f ∙ get_or_default older (at - 1) next 0 (omega arith) ∙ chain.before (at - 1) (omega arith) in (
      walk_on ms v test at next of w some (subst (λ z. test z.pair ≡ false) here fails) is,
      (let h = last-le ms (value_at ms (at - 1)) (at - 1) in omega arith),
    )

-- what a push writes
pub pushed : (ms : List Member) (older newest : List ℕ) (m : Member) (ms2 : List Member)
    (older2 : List ℕ) (n before : ℕ) → AreChained ms older newest → m.pair.value < length newest
    → ms2 ≡ ms ++ m ∷ [] → older2 ≡ older ++ before ∷ [] → n ≡ length ms
    → before ≡ get_or newest m.pair.value before
    → AreChained ms2 older2 (set newest m.pair.value (n + 1))
pushed ms older newest m ms2 older2 n before w l a b d e =
    rw (a, b, e ∙ get_or_default newest m.pair.value before 0 l, d) (chained_push ms older newest m w l)
