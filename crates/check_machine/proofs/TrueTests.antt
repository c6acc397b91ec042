-- What the tests of a turn say.
use Rattle.std.proofs.Common.{◌≡◌, ◌≢◌, ◌↔◌, ℕ, ◌+◌, ◌-◌, ◌<◌, ◌≤◌, Bool, true, false, not, ◌&&◌, ◌==◌, nat_lt, if◌then◌else◌, IsTrue, refl, inl, inr, arith, tests}
use native.Mathlib.Decide.{dec_lt}
use Rattle.misere_theory.specs.Numbering.{KeyBelow}
use Rattle.misere_theory.specs.Certificates.{Certificate, claim_of, times_of, phi_at, key_of, TellsApart}
use Rattle.check_machine.specs.SoFar.{IsKeyOf, IsInOrder}
use Rattle.check_machine.specs.Turns.{is_keyed, is_above_last, key_below, is_in_order, comes_again, tells_apart}

pub opposite : {b : Bool} → b ≡ true → b ≡ false → ⊥
opposite {b = true} e f = cc
opposite {b = false} e f = cc

pub both : (a b : Bool) → (a && b) ≡ true → (a ≡ true) × (b ≡ true)
both true true e = (refl, refl)
both true false e = absurd cc
both false b e = absurd cc

pub is_not : (b : Bool) → (b ≡ true → ⊥) → b ≡ false
is_not true n = absurd (n refl)
is_not false n = refl

pub less_is : (a b : ℕ) → nat_lt a b ≡ true → a < b
less_is a b e = grind (arith, tests)

pub not_less : (a b : ℕ) → nat_lt a b ≡ false → b ≤ a
not_less a b e = grind (arith, tests)

pub same_is : (a b : ℕ) → (a == b) ≡ true → a ≡ b
same_is a b e = grind (arith, tests)

pub not_same : (a b : ℕ) → (a == b) ≡ false → a ≡ b → ⊥
not_same a b e d = let t : (a == b) ≡ true = grind (arith, tests) in opposite t e

-- the tests of a turn, in the theory's words
below_is : (a b : ℕ × ℕ) → key_below a b ≡ true → KeyBelow a b
below_is a b e = elim (dec_lt a.0 b.0) [
  | yes l ↦ inl l
  | no f ↦
      let n : nat_lt a.0 b.0 ≡ false = grind (arith, tests) in
      let m : ((a.0 == b.0) && nat_lt a.1 b.1) ≡ true = rw n at e in
      let (d, l) = both (a.0 == b.0) (nat_lt a.1 b.1) m in
      inr (same_is a.0 b.0 d, less_is a.1 b.1 l)
]

is_below : (a b : ℕ × ℕ) → KeyBelow a b → key_below a b ≡ true
is_below a b (inl l) = let e : nat_lt a.0 b.0 ≡ true = grind (arith, tests) in rw e refl
is_below a b (inr (d, l)) = let n : nat_lt a.0 b.0 ≡ false = grind (arith, tests) in
    let e : (a.0 == b.0) ≡ true = grind (arith, tests) in let k : nat_lt a.1 b.1 ≡ true =
    grind (arith, tests) in rw (n, e, k) refl

module _ (c : Certificate) where
  pub keyed_is : (e : ℕ) → is_keyed c e ≡ true → IsKeyOf c e
  keyed_is e t =
      let (a, b) =
      both (nat_lt (key_of c e).0 e) (times_of c (key_of c e).0 (phi_at c (key_of c e).1) == e)
      t in (
        less_is (key_of c e).0 e a,
        same_is (times_of c (key_of c e).0 (phi_at c (key_of c e).1)) e
            b,
      )

  pub not_keyed : (e : ℕ) → is_keyed c e ≡ false → IsKeyOf c e → ⊥
  not_keyed e f k =
      let a : nat_lt (key_of c e).0 e ≡ true = (let l = k.0 in grind (arith, tests)) in
      let b : (times_of c (key_of c e).0 (phi_at c (key_of c e).1) == e) ≡ true =
      (let d = k.1 in grind (arith, tests)) in
      let t : is_keyed c e ≡ true = rw (a, b) refl in
      opposite t f

  pub above_is : (n : ℕ) → 1 ≤ n → IsTrue (is_above_last c n)
      ↔ (1 < n → KeyBelow (key_of c (n - 1)) (key_of c n))
  above_is n o = elim (dec_lt 1 n) [
    | no f ↦
        let e : (n == 1) ≡ true = grind (arith, tests, f) in
        (λ t l. absurd (f l), λ h. rw e refl)
    | yes l ↦
        let e : (n == 1) ≡ false = grind (arith, tests) in (
          λ t k. below_is (key_of c (n - 1)) (key_of c n) (rw e at t),
          λ h.
              rw e (is_below (key_of c (n - 1)) (key_of c n) (h l)),
        )
  ]

  pub in_order_is : (f h : ℕ) → is_in_order c f h ≡ true → IsInOrder c f h
  in_order_is f h t p k =
      let x = times_of c f (phi_at c h) in
      let e : (x == 0) ≡ false = grind (arith, tests) in
      let u : not (key_below (f, h) (key_of c x)) ≡ true = rw e at t in
      let v = is_below (f, h) (key_of c x) k in
      let w : not (key_below (f, h) (key_of c x)) ≡ false = rw v refl in
      opposite u w

  pub order_fails : (f h : ℕ) → is_in_order c f h ≡ false → IsInOrder c f h → ⊥
  order_fails f h e o =
      let x = times_of c f (phi_at c h) in
      elim (dec_lt 0 x) [
        | no z ↦ (let d : (x == 0) ≡ true = grind (arith, tests, z) in
            let t : is_in_order c f h ≡ true = (rw d refl) in opposite t e)
        | yes p ↦
            let d : (x == 0) ≡ false = grind (arith, tests) in
            let k : key_below (f, h) (key_of c x) ≡ false =
            is_not (key_below (f, h) (key_of c x)) (λ t. o p (below_is (f, h) (key_of c x) t))
            in
            let t : is_in_order c f h ≡ true = (rw (d, k) refl) in
            opposite t e
      ]

  pub again_is : (heap shift : ℕ) → comes_again c heap shift ≡ true
      → (0 < heap) × (0 < shift) × (phi_at c (shift + heap) ≡ phi_at c heap)
  again_is heap shift t =
      let (a, q) =
      both (nat_lt 0 heap) (nat_lt 0 shift && (phi_at c (shift + heap) == phi_at c heap)) t in
      let (d, b) = both (nat_lt 0 shift) (phi_at c (shift + heap) == phi_at c heap) q in
      (less_is 0 heap a, less_is 0 shift d, same_is (phi_at c (shift + heap)) (phi_at c heap) b)

  pub not_again : (heap shift : ℕ) → comes_again c heap shift ≡ false → 0 < heap → 0 < shift
      → phi_at c (shift + heap) ≡ phi_at c heap → ⊥
  not_again heap shift f p q d =
      let a : nat_lt 0 heap ≡ true = grind (arith, tests) in
      let g : nat_lt 0 shift ≡ true = grind (arith, tests) in
      let b : (phi_at c (shift + heap) == phi_at c heap) ≡ true = grind (arith, tests) in
      let t : comes_again c heap shift ≡ true = rw (a, g, b) refl in
      opposite t f

differ : (a b : Bool) → (if a then not b else b) ≡ true → a ≢ b
differ true true e d = absurd cc
differ true false e d = absurd cc
differ false true e d = absurd cc
differ false false e d = absurd cc

same_sides : (a b : Bool) → (if a then not b else b) ≡ false → a ≢ b → ⊥
same_sides true true e d = d refl
same_sides true false e d = absurd cc
same_sides false true e d = absurd cc
same_sides false false e d = d refl

module _ (c : Certificate) (x y z : ℕ) where
  pub apart_is : tells_apart c x y z ≡ true → TellsApart (claim_of c) (x, y) z
  apart_is t =
      differ ((claim_of c).portion (times_of c x z)) ((claim_of c).portion (times_of c y z)) t

  pub not_apart : tells_apart c x y z ≡ false → TellsApart (claim_of c) (x, y) z → ⊥
  not_apart f =
      same_sides ((claim_of c).portion (times_of c x z)) ((claim_of c).portion (times_of c y z)) f

pub not_false : (b : Bool) → not b ≡ false → b ≡ true
not_false true e = refl
not_false false e = absurd cc

pub not_true : (b : Bool) → not b ≡ true → b ≡ false
not_true true e = absurd cc
not_true false e = refl
