-- A kernel whose elements have two nim sums, or have the nim sum 0 twice, isn't normal play.
use Rattle.std.proofs.Common.{◌≡◌, ◌≢◌, ◌↔◌, ℕ, ◌<◌, bit_xor, List, ◌∷◌, ◌++◌, sym, ◌∙◌, ap, ap₂}
use Rattle.std.specs.Int.Bits.{xor_zero_l}
use native.Mathlib.Decide.{ℕ_discrete}
use Rattle.misere_theory.specs.Games.{IsPosition}
use Rattle.misere_theory.specs.Kinds.{IsHeapIn}
use Rattle.misere_theory.specs.Quotients.{Claim, Represents, value}
use Rattle.misere_theory.proofs.Sums.{IsPosition-append, value_in, value-append}
use Rattle.nim_tails.specs.Normal.{nim_sum, AreNimValues}
use Rattle.nim_tails.specs.NormalTails.{IsRegularKernel, AreNimSums, HasTwoOutcomes}
use Rattle.nim_tails.proofs.NormalDigits.{taken_left}
use Rattle.nim_tails.proofs.Ideals.{square_of, multiple_is, kernel_of_multiple}
use Rattle.nim_tails.proofs.Outcomes.{nim_sums_tell}
use Rattle.nim_tails.proofs.NormalSums.{nim_sum-append}

-- numbers whose nim sum is 0 are equal
none_between : (a b : ℕ) → bit_xor a b ≡ 0 → a ≡ b
none_between a b e = sym (taken_left a b) ∙ ap (λ x. bit_xor x b) e ∙ xor_zero_l b

module _
    (M : ℕ) (code : List ℕ) (c : Claim) (e : ℕ) (G : ℕ → ℕ)
    (right : Represents (IsHeapIn M) code c) (k : IsRegularKernel c e)
    (good : AreNimValues M code G) where
  product : (X Y : List ℕ) → IsPosition (IsHeapIn M) X → IsPosition (IsHeapIn M) Y
      → value c (X ++ Y) ≡ c.times (value c X) (value c Y)
  product = value-append (IsHeapIn M) c right.monoid right.elements

  in_order : (X : List ℕ) → IsPosition (IsHeapIn M) X → value c X < c.order
  in_order = value_in (IsHeapIn M) c right.monoid right.elements

  -- a position whose value is a multiple of e, and whose nim sum says otherwise than that value
  by_multiple : (X : List ℕ) → IsPosition (IsHeapIn M) X → c.times e (value c X) ≡ value c X
      → ((nim_sum G X ≡ 0) ↔ (value c X ≡ e) → ⊥) → HasTwoOutcomes M code c
  by_multiple X p i other =
      let (out, back) = right.predicts X p in
      let (to_one, from_one) = k.portion (value c X) (in_order X p) i in
      let (to_sum, from_sum) = nim_sums_tell M code G good X p in (
        X,
        p,
        kernel_of_multiple c right.monoid e k (value c X) (in_order X p) i,
        λ (there, here). other
            (λ z. to_one (out (here (from_sum z))), λ f. to_sum (there (back (from_one f)))),
      )

  -- the same of any position, beside one whose value is e
  pub two_outcomes : (X : List ℕ) → IsPosition (IsHeapIn M) X
      → ((nim_sum G X ≡ 0) ↔ (c.times e (value c X) ≡ e) → ⊥) → HasTwoOutcomes M code c
  two_outcomes X p other =
      let (E, q, f) = right.reached e k.element in
      elim (ℕ_discrete (nim_sum G E) 0) [
        | no g ↦
            by_multiple E q (ap (c.times e) f ∙ k.idempotent ∙ sym f)
            (λ (there, back). g (back f))
        | yes z ↦
            let v : value c (E ++ X) ≡ c.times e (value c X) =
            product E X q p ∙ ap (λ y. c.times y (value c X)) f in
            let n : nim_sum G (E ++ X) ≡ nim_sum G X =
            nim_sum-append G E X ∙ ap (λ y. bit_xor y (nim_sum G X)) z
            ∙ xor_zero_l (nim_sum G X) in
            by_multiple (E ++ X) (IsPosition-append (IsHeapIn M) E X q p)
            (ap (c.times e) v ∙ multiple_is c right.monoid e k (value c X) (in_order X p) ∙ sym v)
            (λ (there, back). other
            (λ s. sym v ∙ there (n ∙ s), λ s. sym n ∙ back (v ∙ s)))
      ]

  module _ (nim : ℕ → ℕ) (sums : AreNimSums M c G nim) where
    -- an element with a heap has another nim sum than it should
    pub by_heap : (n x : ℕ) → IsHeapIn M n → x < c.order
        → nim (c.times (c.phi n) x) ≢ bit_xor (G n) (nim x) → HasTwoOutcomes M code c
    by_heap n x h l other =
        let y = c.times (c.phi n) x in
        let w : y < c.order = right.monoid.closed (c.phi n) x (right.elements n h) l in
        let (X, p, f, g) = sums x l in
        let (Y, q, i, j) = sums y w in
        let a : value c (n ∷ X) ≡ y = ap (c.times (c.phi n)) f in
        let b : value c (n ∷ X ++ Y) ≡ c.times y y =
        product (n ∷ X) Y (h, p) q ∙ ap₂ c.times a i in
        let s : nim_sum G (n ∷ X ++ Y) ≡ bit_xor (bit_xor (G n) (nim x)) (nim y) =
        nim_sum-append G (n ∷ X) Y ∙ ap₂ bit_xor (ap (bit_xor (G n)) g) j in
        let t : c.times e (c.times y y) ≡ e =
        sym (square_of c right.monoid e y k.element w k.idempotent)
        ∙ k.squares (c.times e y) (right.monoid.closed e y k.element w)
        (multiple_is c right.monoid e k y w) in
        two_outcomes (n ∷ X ++ Y) (IsPosition-append (IsHeapIn M) (n ∷ X) Y (h, p) q)
        (λ (there, back). other
        (sym (none_between (bit_xor (G n) (nim x)) (nim y)
        (sym s ∙ back (ap (c.times e) b ∙ t)))))

    -- a multiple of e that isn't e has the nim sum 0
    pub by_zero : (x : ℕ) → x < c.order → c.times e x ≡ x → nim x ≡ 0 → x ≢ e
        → HasTwoOutcomes M code c
    by_zero x l i z other =
        let (X, p, f, g) = sums x l in
        two_outcomes X p (λ (there, back). other
        (sym i ∙ ap (c.times e) (sym f) ∙ there (g ∙ z)))
