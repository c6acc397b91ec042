-- Heaps of any size have the pairs of the heaps 1 to B.
-- From some size on, an option has a part to which a period can be added, or from which one can be
-- taken: the value stays.
use Rattle.std.proofs.Common.{◌≡◌, ℕ, suc, zero, ◌+◌, ◌-◌, ◌*◌, ◌<◌, ◌≤◌, List, [], ◌∷◌, refl, sym, ◌∙◌, ap, subst, inl, inr, true, false, arith, IsBitSet}
use native.Mathlib.Decide.{dec_le}
use Rattle.misere_theory.specs.Games.{digit, leaves_three, HeapOption, IsHeapUpTo}
use Rattle.misere_theory.specs.Games.HeapOption.{Nothing, One, Two, Three}
use Rattle.misere_theory.specs.Quotients.{Claim, value}
use Rattle.misere_theory.specs.Pairs.{heap_bound, IsPeriodic, SameHeapPair}
use Rattle.misere_theory.proofs.Codes.{no_bit_of_zero, no_three}
use Rattle.misere_theory.proofs.LocalRule.{true_or_false}

-- what the bound is, with bit 8 and without
pub bound_with : (code : List ℕ) (k start period : ℕ) → leaves_three code ≡ true
    → heap_bound code k start period ≡ 3 * start + 3 * period + k
bound_with code k start period e = rw e refl

pub bound_without : (code : List ℕ) (k start period : ℕ) → leaves_three code ≡ false
    → heap_bound code k start period ≡ 2 * start + 2 * period + k
bound_without code k start period e = rw e refl

module _ (code : List ℕ) (c : Claim) (k start period : ℕ) (ok : IsPeriodic code c k start period)
  where
    at_most : (j b : ℕ) → IsBitSet (digit code j) b → j ≤ k
    at_most j b h =
        elim (dec_le j k) [
          | yes l ↦ l
          | no f ↦ absurd (no_bit_of_zero _ b (ok.last j (omega arith)) h)
        ]

    -- a part less a period has the same element
    taken : (a : ℕ) → start + period ≤ a → c.phi (a - period) ≡ c.phi a
    taken a l = let e : period + (a - period) ≡ a = omega arith in
        sym (ok.repeats (a - period) (omega arith)) ∙ ap c.phi e

    -- The heap m is n with a period more or less. An option of n that is not small has a part from
    -- `low` on, of which as much is made: the last of its parts that is large enough.
    module _
        (n m low : ℕ) (moved : ℕ → ℕ) (some : 1 ≤ low) (two : 2 * low + k ≤ n)
        (three : (j : ℕ) → IsBitSet (digit code j) 3 → 3 * low + k ≤ n)
        (same : (a : ℕ) → low ≤ a
        → (1 ≤ moved a) × (moved a + n ≡ a + m) × (c.phi (moved a) ≡ c.phi a)) where
      option_moved : {H : List ℕ} → HeapOption code n H
          → (L : List ℕ) × HeapOption code m L × (value c L ≡ value c H)
      option_moved (Nothing j p e b) = absurd (omega (arith, at_most j 0 b))
      option_moved (One j a p q e b) =
          let i = at_most j 1 b in
          let (u, v, w) = same a (omega arith) in
          (moved a ∷ [], One j (moved a) p u (omega arith) b, ap (λ t. c.times t 0) w)
      option_moved (Two j a b p q e s) =
          let i = at_most j 2 s in
          elim (dec_le low b) [
            | yes t ↦ let (u, v, w) = same b t in (
              a ∷ moved b ∷ [],
              Two j a (moved b) p u (omega arith) s,
              ap (λ t. c.times (c.phi a) (c.times t 0)) w,
            )
            | no t ↦ let (u, v, w) = same a (omega arith) in (
              moved a ∷ b ∷ [],
              Two j (moved a) b u q (omega arith) s,
              ap (λ t. c.times t (c.times (c.phi b) 0)) w,
            )
          ]
      option_moved (Three j a b d p q r e s) =
          let i = at_most j 3 s in
          let high = three j s in
          elim (dec_le low d) [
            | yes t ↦ let (u, v, w) = same d t in (
              a ∷ b ∷ moved d ∷ [],
              Three j a b (moved d) p q u (omega arith) s,
              ap (λ t. c.times (c.phi a) (c.times (c.phi b) (c.times t 0))) w,
            )
            | no f ↦ elim (dec_le low b) [
              | yes t ↦ let (u, v, w) = same b t in (
                a ∷ moved b ∷ d ∷ [],
                Three j a (moved b) d p u r (omega arith) s,
                ap (λ t. c.times (c.phi a) (c.times t (c.times (c.phi d) 0))) w,
              )
              | no g ↦ let (u, v, w) = same a (omega arith) in (
                moved a ∷ b ∷ d ∷ [],
                Three j (moved a) b d u q r (omega arith) s,
                ap (λ t. c.times t (c.times (c.phi b) (c.times (c.phi d) 0))) w,
              )
            ]
          ]

    -- From `low` on a heap has the pair of the heap that is a period larger.
    module _
        (low : ℕ) (two : 2 * start + period + k ≤ low)
        (three : (j : ℕ) → IsBitSet (digit code j) 3 → 3 * start + 2 * period + k ≤ low) where
      same_pair : (n : ℕ) → low ≤ n → SameHeapPair code c n (period + n)
      same_pair n l =
          let s = ok.from_one in (
            sym (ok.repeats n (omega arith)),
            λ x. (
              λ (H, h, e). let (L, i, f) =
                  option_moved n (period + n) start (λ a. period + a) s (omega arith)
                  (λ j b. let t = three j b in omega arith)
                  (λ a g. (omega arith, omega arith, ok.repeats a g)) h in (L, i, f ∙ e),
              λ (H, h, e). let (L, i, f) =
                  option_moved (period + n) n (start + period) (λ a. a - period) (omega arith)
                  (omega arith) (λ j b. let t = three j b in omega arith)
                  (λ a g. (omega arith, omega arith, taken a g)) h in (L, i, f ∙ e),
            ),
          )

      shown_within : (t n : ℕ) → n < t → 1 ≤ n → (m : ℕ) × IsHeapUpTo (low + period) m
          × SameHeapPair code c n m
      shown_within zero n l p = absurd (omega arith)
      shown_within (suc t) n l p = elim (dec_le n (low + period)) [
        | yes i ↦ (n, (p, i), (refl, λ x. (λ o. o, λ o. o)))
        | no i ↦
            let s = ok.from_one in let r = ok.some in
            let (m, u, same) = shown_within t (n - period) (omega arith) (omega arith) in
            let e : period + (n - period) ≡ n = omega arith in
            let up : SameHeapPair code c (n - period) n =
            subst (λ v. SameHeapPair code c (n - period) v) e (same_pair (n - period) (omega arith))
            in (
              m,
              u,
              (
                sym up.0 ∙ same.0,
                λ x.
                    (λ o. (same.1 x).0 ((up.1 x).1 o), λ o. (up.1 x).0 ((same.1 x).1 o)),
              ),
            )
      ]

    -- each heap has the pair of one of the heaps 1 to B
    pub heap_shown : (n : ℕ) → 1 ≤ n → (m : ℕ) × IsHeapUpTo (heap_bound code k start period) m
        × SameHeapPair code c n m
    heap_shown n p = elim (true_or_false (leaves_three code)) [
      | inl e ↦
          let bound = bound_with code k start period e in
          let (m, u, same) = shown_within (3 * start + 2 * period + k) (omega arith)
          (λ j h. omega arith) (suc n) n (omega arith) p in
          (m, (u.0, let v = u.1 in omega arith), same)
      | inr f ↦
          let bound = bound_without code k start period f in
          let (m, u, same) = shown_within (2 * start + period + k) (omega arith)
          (λ j h. absurd (no_three code j f h)) (suc n) n (omega arith) p in
          (m, (u.0, let v = u.1 in omega arith), same)
    ]
