-- One key more is looked at.
-- A key that isn't one is told at once; that keys don't rise is told in the end.
use Rattle.std.proofs.Common.{◌≡◌, ℕ, ◌+◌, ◌-◌, ◌<◌, ◌≤◌, ◌⊎◌, ◌↔◌, Bool, true, false, IsTrue, ◌&&◌, refl, sym, subst, inl, inr, arith}
use native.Mathlib.Decide.{dec_lt}
use Rattle.misere_theory.specs.Numbering.{KeyBelow}
use Rattle.misere_theory.specs.Certificates.{Certificate, key_of}
use Rattle.misere_theory.specs.Faults.{WordFault, OrderFault}
use Rattle.check_machine.specs.SoFar.{IsKeyOf, KeysSoFar, AreKeys}

split_and : (a b : Bool) → (a && b) ≡ true → (a ≡ true) × (b ≡ true)
split_and true true e = (refl, refl)
split_and true false e = absurd (cc)
split_and false b e = absurd (cc)

fails_and : (a b : Bool) → (a && b) ≡ false → (a ≡ false) ⊎ (b ≡ false)
fails_and true b e = inr e
fails_and false b e = inl refl

module _ (c : Certificate) where
  keyed_on : (n : ℕ) → ((e : ℕ) → 0 < e → e < n → IsKeyOf c e) → IsKeyOf c n → (e : ℕ) → 0 < e
      → e < n + 1 → IsKeyOf c e
  keyed_on n all k e p l =
      elim (dec_lt e n) [
        | yes b ↦ all e p b
        | no f ↦ (let d : n ≡ e = omega arith in
            subst (IsKeyOf c) d k)
      ]

  -- a key was looked at
  pub key_turn : (n : ℕ) (r s : Bool) → KeysSoFar c n r → n < c.order → IsKeyOf c n
      → (IsTrue s ↔ (1 < n → KeyBelow (key_of c (n - 1)) (key_of c n)))
      → KeysSoFar c (n + 1) (r && s)
  key_turn n r s k l is above = record {
    from_one = omega arith;
    within = omega arith;
    keyed = keyed_on n k.keyed is;
    rise = λ t e p b. let (u, v) = split_and r s t in elim (dec_lt (e + 1) n) [
      | yes g ↦ k.rise u e p g
      | no f ↦
          let d : e + 1 ≡ n = omega arith in
          let d' : n - 1 ≡ e = omega arith in
          let h = above.0 v (omega arith) in
          subst (λ m. KeyBelow (key_of c e) (key_of c m)) (sym d)
          (subst (λ m. KeyBelow (key_of c m) (key_of c n)) d' h)
    ];
    falls = λ t. elim (fails_and r s t) [
      | inl u ↦ k.falls u
      | inr v ↦
          let never : (1 < n → KeyBelow (key_of c (n - 1)) (key_of c n)) → ⊥ =
          λ h. (let w : true ≡ s = sym (above.1 h) in cc) in
          elim (dec_lt 1 n) [
            | yes g ↦
                let d : n - 1 + 1 ≡ n = omega arith in (
                  n - 1,
                  omega arith,
                  omega arith,
                  λ h.
                      never (λ _. subst (λ m. KeyBelow (key_of c (n - 1)) (key_of c m)) d h),
                )
            | no f ↦ absurd (never (λ g. absurd (f g)))
          ]
    ];
  }

  -- all keys were looked at
  pub keys_end : (n : ℕ) → KeysSoFar c n true → c.order ≤ n → AreKeys c
  keys_end n k l = record {
    keyed = λ e p b. k.keyed e p (omega arith);
    rise = λ e p b. k.rise refl e p (omega arith);
  }

  pub not_a_key : (e : ℕ) → 0 < e → e < c.order → (IsKeyOf c e → ⊥) → WordFault c
  not_a_key e p l not = elim (dec_lt (key_of c e).0 e) [
    | no f ↦ (e, p, l, inl (omega arith))
    | yes b ↦ (e, p, l, inr (λ q. not (b, q)))
  ]

  pub keys_fault_free : ((e : ℕ) → 0 < e → e < c.order → IsKeyOf c e) → WordFault c → ⊥
  keys_fault_free keyed (e, p, l, inl b) = let k = keyed e p l in omega (arith, k.0)
  keys_fault_free keyed (e, p, l, inr q) = q (keyed e p l).1

  pub keys_fall : (n : ℕ) (r : Bool) → KeysSoFar c n r → r ≡ false → OrderFault c
  keys_fall n r k f = inl (k.falls f)

  keys_all : (n : ℕ) (r : Bool) → KeysSoFar c n r → c.order ≤ n → (e : ℕ) → 0 < e → e < c.order
      → IsKeyOf c e
  keys_all n r k l e p b = k.keyed e p (omega arith)

  pub keys_word_free : (n : ℕ) (r : Bool) → KeysSoFar c n r → c.order ≤ n → WordFault c → ⊥
  keys_word_free n r k l = keys_fault_free (keys_all n r k l)
