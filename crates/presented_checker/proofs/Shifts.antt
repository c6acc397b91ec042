-- Where what heaps have repeats, heaps of any size are like the heaps 1 to B: they have the same, and options whose heaps
-- have the same.
-- From some size on, an option has a heap to which a period can be added, or from which one can be taken.
use Rattle.std.proofs.Common.{◌≡◌, ℕ, suc, zero, ◌+◌, ◌-◌, ◌*◌, ◌<◌, ◌≤◌, List, [], ◌∷◌, map, refl, sym, ◌∙◌, ap, subst, inl, inr, arith, IsBitSet}
use native.Mathlib.Decide.{dec_le}
use Rattle.misere_theory.specs.Games.{digit, leaves_three, HeapOption, IsHeapUpTo}
use Rattle.misere_theory.specs.Games.HeapOption.{Nothing, One, Two, Three}
use Rattle.misere_theory.specs.Pairs.{heap_bound}
use Rattle.misere_theory.proofs.Bound.{bound_with, bound_without}
use Rattle.misere_theory.proofs.Codes.{no_bit_of_zero, no_three}
use Rattle.misere_theory.proofs.LocalRule.{true_or_false}

-- The code has no digit past dk, and f repeats with the period from start on.
pub record Repeats {T : Type 0} (code : List ℕ) (f : ℕ → T) (k start period : ℕ) : Type 0 where
  pub last : (j : ℕ) → k < j → digit code j ≡ 0
  pub from_one : 1 ≤ start
  pub some : 1 ≤ period
  pub repeats : (n : ℕ) → start ≤ n → f (period + n) ≡ f n

-- Each option of the heap n has one of the heap m beside it whose heaps have the same.
abbrev pub Leads : {T : Type 0} → List ℕ → (ℕ → T) → ℕ → ℕ → Type 0
Leads code f n m =
    (H : List ℕ) → HeapOption code n H → (K : List ℕ) × HeapOption code m K × (map f K ≡ map f H)

-- The heaps n and m have the same, and so have their options.
pub record AreLike {T : Type 0} (code : List ℕ) (f : ℕ → T) (n m : ℕ) : Type 0 where
  pub same : f n ≡ f m
  pub forth : Leads code f n m
  pub back : Leads code f m n

module _ {T : Type 0} (code : List ℕ) (f : ℕ → T) where
  itself : (n : ℕ) → AreLike code f n n
  itself n = record { same = refl; forth = λ H h. (H, h, refl); back = λ H h. (H, h, refl) }

  then_leads : (a b c : ℕ) → Leads code f a b → Leads code f b c → Leads code f a c
  then_leads a b c one two H h =
      let (K, k, e) = one H h in
      let (L, l, g) = two K k in
      (L, l, g ∙ e)

  then_like : (a b c : ℕ) → AreLike code f a b → AreLike code f b c → AreLike code f a c
  then_like a b c one two = record {
    same = one.same ∙ two.same;
    forth = then_leads a b c one.forth two.forth;
    back = then_leads c b a two.back one.back;
  }

  turned : (a b : ℕ) → AreLike code f a b → AreLike code f b a
  turned a b one = record { same = sym one.same; forth = one.back; back = one.forth }

module _ {T : Type 0} (code : List ℕ) (f : ℕ → T) (k start period : ℕ) (ok : Repeats code f k start period)
  where
    at_most : (j b : ℕ) → IsBitSet (digit code j) b → j ≤ k
    at_most j b h =
        elim (dec_le j k) [
          | yes l ↦ l
          | no g ↦ absurd (no_bit_of_zero _ b (ok.last j (omega arith)) h)
        ]

    -- a heap less a period has the same
    taken : (a : ℕ) → start + period ≤ a → f (a - period) ≡ f a
    taken a l = let e : period + (a - period) ≡ a = omega arith in
        sym (ok.repeats (a - period) (omega arith)) ∙ ap f e

    -- The heap m is n with a period more or less. An option of n that is not small has a heap from
    -- `low` on, of which as much is made: the last of its heaps that is large enough.
    module _
        (n m low : ℕ) (moved : ℕ → ℕ) (some : 1 ≤ low) (two : 2 * low + k ≤ n)
        (three : (j : ℕ) → IsBitSet (digit code j) 3 → 3 * low + k ≤ n)
        (same : (a : ℕ) → low ≤ a
        → (1 ≤ moved a) × (moved a + n ≡ a + m) × (f (moved a) ≡ f a)) where
      moves : (H : List ℕ) → HeapOption code n H
          → (L : List ℕ) × HeapOption code m L × (map f L ≡ map f H)
      moves _ (Nothing j p e b) = absurd (omega (arith, at_most j 0 b))
      moves _ (One j a p q e b) =
          let i = at_most j 1 b in
          let (u, v, w) = same a (omega arith) in
          (moved a ∷ [], One j (moved a) p u (omega arith) b, ap (λ t. t ∷ []) w)
      moves _ (Two j a b p q e s) =
          let i = at_most j 2 s in
          elim (dec_le low b) [
            | yes t ↦ let (u, v, w) = same b t in (
              a ∷ moved b ∷ [],
              Two j a (moved b) p u (omega arith) s,
              ap (λ t. f a ∷ t ∷ []) w,
            )
            | no t ↦ let (u, v, w) = same a (omega arith) in (
              moved a ∷ b ∷ [],
              Two j (moved a) b u q (omega arith) s,
              ap (λ t. t ∷ f b ∷ []) w,
            )
          ]
      moves _ (Three j a b d p q r e s) =
          let i = at_most j 3 s in
          let high = three j s in
          elim (dec_le low d) [
            | yes t ↦ let (u, v, w) = same d t in (
              a ∷ b ∷ moved d ∷ [],
              Three j a b (moved d) p q u (omega arith) s,
              ap (λ t. f a ∷ f b ∷ t ∷ []) w,
            )
            | no x ↦ elim (dec_le low b) [
              | yes t ↦ let (u, v, w) = same b t in (
                a ∷ moved b ∷ d ∷ [],
                Three j a (moved b) d p u r (omega arith) s,
                ap (λ t. f a ∷ t ∷ f d ∷ []) w,
              )
              | no y ↦ let (u, v, w) = same a (omega arith) in (
                moved a ∷ b ∷ d ∷ [],
                Three j (moved a) b d u q r (omega arith) s,
                ap (λ t. t ∷ f b ∷ f d ∷ []) w,
              )
            ]
          ]

    -- From `low` on a heap is like the heap that is a period larger.
    module _
        (low : ℕ) (two : 2 * start + period + k ≤ low)
        (three : (j : ℕ) → IsBitSet (digit code j) 3 → 3 * start + 2 * period + k ≤ low) where
      one_more : (n : ℕ) → low ≤ n → AreLike code f n (period + n)
      one_more n l =
          let s = ok.from_one in record {
            same = sym (ok.repeats n (omega arith));
            forth =
                moves n (period + n) start (λ a. period + a) s (omega arith)
                (λ j b. let t = three j b in omega arith)
                (λ a g. (omega arith, omega arith, ok.repeats a g));
            back =
                moves (period + n) n (start + period) (λ a. a - period) (omega arith) (omega arith)
                (λ j b. let t = three j b in omega arith)
                (λ a g. (omega arith, omega arith, taken a g));
          }

      like_within : (t n : ℕ) → n < t → 1 ≤ n → (m : ℕ) × IsHeapUpTo (low + period) m × AreLike code f n m
      like_within zero n l p = absurd (omega arith)
      like_within (suc t) n l p = elim (dec_le n (low + period)) [
        | yes i ↦ (n, (p, i), itself code f n)
        | no i ↦
            let s = ok.from_one in let r = ok.some in
            let (m, u, like) = like_within t (n - period) (omega arith) (omega arith) in
            let e : period + (n - period) ≡ n = omega arith in
            let up : AreLike code f (n - period) n =
            subst (λ v. AreLike code f (n - period) v) e (one_more (n - period) (omega arith))
            in (m, u, then_like code f n (n - period) m (turned code f (n - period) n up) like)
      ]

    -- each heap is like one of the heaps 1 to B
    pub like_small : (n : ℕ) → 1 ≤ n
        → (m : ℕ) × IsHeapUpTo (heap_bound code k start period) m × AreLike code f n m
    like_small n p = elim (true_or_false (leaves_three code)) [
      | inl e ↦
          let bound = bound_with code k start period e in
          let (m, u, like) = like_within (3 * start + 2 * period + k) (omega arith)
          (λ j h. omega arith) (suc n) n (omega arith) p in
          (m, (u.0, let v = u.1 in omega arith), like)
      | inr g ↦
          let bound = bound_without code k start period g in
          let (m, u, like) = like_within (2 * start + period + k) (omega arith)
          (λ j h. absurd (no_three code j g h)) (suc n) n (omega arith) p in
          (m, (u.0, let v = u.1 in omega arith), like)
    ]
