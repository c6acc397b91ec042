-- Of the splits of a heap those whose parts but the largest are below start + period show all
-- values.
-- A period is moved from a smaller part to the largest, again and again: the value stays.
use Rattle.std.proofs.Common.{◌≡◌, ℕ, zero, suc, ◌+◌, ◌-◌, ◌<◌, ◌≤◌, ◌⊎◌, List, [], ◌∷◌, refl, sym, ◌∙◌, ap, ap₂, inl, inr, true, arith, eq-zero-or-pos, IsBitSet}
use Rattle.std.specs.List.Sorted.{IsNonDecreasing}
use native.Mathlib.Decide.{dec_le, ℕ_discrete}
use Rattle.misere_theory.specs.Games.{HeapOption, digit, leaves_three, IsPosition}
use Rattle.misere_theory.specs.Games.HeapOption.{Nothing, One, Two, Three}
use Rattle.misere_theory.specs.Quotients.{Claim, Monoid, GivesElements, value}
use Rattle.misere_theory.specs.Pairs.{IsPeriodic, IsSmallSplit}
use Rattle.misere_theory.specs.Kinds.{IsHeapIn, IsPeriodicIn}
use Rattle.misere_theory.specs.Plays.{LeftBefore}
use Rattle.misere_theory.proofs.Codes.{seen_three}
use Rattle.misere_theory.proofs.Sums.{option_smaller}
use Rattle.misere_theory.proofs.Counting.{kept_in}
use Rattle.misere_theory.proofs.InOrder.{put_in_order}
use Rattle.misere_theory.proofs.Shuffles.{back, value_shuffled, Shuffled}
use Rattle.misere_theory.proofs.Shuffles.Shuffled.{Flip}

module _
    (M : ℕ) (code : List ℕ) (c : Claim) (k start period : ℕ)
    (ok : IsPeriodicIn M code c k start period) (past : M < start + period) where
  module _ (n : ℕ) (counts : 0 < M → n ≤ M) where
    -- past start + period phi repeats: no heap of a part of the game is there
    past_repeats : (a : ℕ) → start + period ≤ a → a ≤ n → IsPeriodic code c k start period
    past_repeats a l h = elim (eq-zero-or-pos M) [
      | inl z ↦ ok z
      | inr some ↦ absurd (let m = counts some in omega arith)
    ]

    kept : {H : List ℕ} → HeapOption code n H → IsPosition (IsHeapIn M) H
    kept {H = H} o = kept_in M code n H (let s = option_smaller o in omega arith, counts) o

    -- the period, moved from the smaller part to the other until the smaller is small
    lowered : (t a b : ℕ) → a < t → 1 ≤ a → a ≤ b → a + b ≤ n
        → (x : ℕ) × (y : ℕ) × (1 ≤ x) × (x ≤ y) × (x < start + period) × (x ≤ a) × (x + y ≡ a + b)
        × (c.phi x ≡ c.phi a) × (c.phi y ≡ c.phi b)
    lowered zero a b l p o sum = absurd (omega arith)
    lowered (suc t) a b l p o sum = elim (dec_le (start + period) a) [
      | no h ↦ (a, b, p, o, omega arith, omega arith, refl, refl, refl)
      | yes h ↦
          let per = past_repeats a h (omega arith) in
          let from_one = per.from_one in let some = per.some in
          let (x, y, q, r, s, u, e, f, g) =
          lowered t (a - period) (period + b) (omega arith) (omega arith) (omega arith)
          (omega arith) in
          let back : period + (a - period) ≡ a = omega arith in (
            x,
            y,
            q,
            r,
            s,
            omega arith,
            omega arith,
            f ∙ sym (per.repeats (a - period) (omega arith))
                ∙ ap c.phi back,
            g ∙ per.repeats b (omega arith),
          )
    ]

    in_order_split : (j a b : ℕ) → 1 ≤ a → a ≤ b → n ≡ j + (a + b) → IsBitSet (digit code j) 2
        → (L : List ℕ) × HeapOption code n L × IsSmallSplit (start + period) L
        × (value c L ≡ value c (a ∷ b ∷ [])) × ((L ≡ a ∷ b ∷ []) ⊎ LeftBefore L (a ∷ b ∷ []))
    in_order_split j a b p o h s =
        let (x, y, q, r, u, l, e, f, g) = lowered (suc a) a b (omega arith) p o (omega arith) in (
          x ∷ y ∷ [],
          Two j x y q (omega arith) (omega arith) s,
          (r, u),
          ap₂ (λ v w. c.times v (c.times w 0)) f g,
          elim (ℕ_discrete x a) [
            | yes d ↦ inl (let d' : y ≡ b = omega arith in ap₂ (λ v w. v ∷ w ∷ []) d d')
            | no d ↦ inr (inr (omega arith, inr (refl, inl (omega arith))))
          ],
        )

    -- of three parts in order the period is moved from the first to the last, and then from the
    -- second to the last; where the second is now below the first, they change places
    in_order_triple : Monoid c.order c.times → GivesElements (IsHeapIn M) c → (j a b d : ℕ)
        → 1 ≤ a → a ≤ b → b ≤ d
        → n ≡ j + (a + b + d) → IsBitSet (digit code j) 3
        → (L : List ℕ) × HeapOption code n L × IsSmallSplit (start + period) L
        × (value c L ≡ value c (a ∷ b ∷ d ∷ []))
        × ((L ≡ a ∷ b ∷ d ∷ []) ⊎ LeftBefore L (a ∷ b ∷ d ∷ []))
    in_order_triple m phi_in j a b d p o u h s =
        let (x, z, x_some, _, x_small, x_low, x_sum, x_same, z_same) =
        lowered (suc a) a d (omega arith) p (omega arith) (omega arith) in
        let (y, w, y_some, _, y_small, y_low, y_sum, y_same, w_same) =
        lowered (suc b) b z (omega arith) (omega arith) (omega arith) (omega arith) in
        let same : value c (x ∷ y ∷ w ∷ []) ≡ value c (a ∷ b ∷ d ∷ []) =
        ap₂ (λ v t. c.times v (c.times t (c.times (c.phi w) 0))) x_same y_same
        ∙ ap (λ v. c.times (c.phi a) (c.times (c.phi b) (c.times v 0))) (w_same ∙ z_same) in
        elim (dec_le x y) [
          | yes l ↦ (
            x ∷ y ∷ w ∷ [],
            Three j x y w x_some y_some (omega arith) (omega arith) s,
            (l, omega arith, x_small, y_small),
            same,
            elim (ℕ_discrete x a) [
              | no f ↦ inr (inr (omega arith, inr (refl, inl (omega arith))))
              | yes e ↦ elim (ℕ_discrete y b) [
                | no f ↦ inr (inr (omega arith, inr (refl, inr (e, omega arith))))
                | yes g ↦ inl
                    (let k : w ≡ d = omega arith in
                    ap₂ (λ v K. v ∷ K) e (ap₂ (λ v t. v ∷ t ∷ []) g k))
              ]
            ],
          )
          | no f ↦
              let rising : x ≤ w = omega arith in
              let flip : Shuffled (y ∷ x ∷ w ∷ []) (x ∷ y ∷ w ∷ []) = Flip in
              let o : HeapOption code n (y ∷ x ∷ w ∷ []) =
              Three j y x w y_some x_some (omega arith) (omega arith) s in (
                y ∷ x ∷ w ∷ [],
                o,
                (omega arith, rising, y_small, x_small),
                value_shuffled (IsHeapIn M) c m phi_in flip (kept o) ∙ same,
                inr (inr (omega arith, inr (refl, inl (omega arith)))),
              )
        ]

    -- an option with its parts in order is small itself, or one of the same value that comes before
    -- it is
    pub small_or_earlier : (leaves_three code ≡ true
        → Monoid c.order c.times × GivesElements (IsHeapIn M) c)
        → (H : List ℕ) → HeapOption code n H → IsNonDecreasing H
        → (L : List ℕ) × HeapOption code n L × IsSmallSplit (start + period) L
        × (value c L ≡ value c H) × ((L ≡ H) ⊎ LeftBefore L H)
    small_or_earlier laws H (Nothing j l h b) w = ([], Nothing j l h b, tt, refl, inl refl)
    small_or_earlier laws H (One j a l p h b) w = (a ∷ [], One j a l p h b, tt, refl, inl refl)
    small_or_earlier laws H (Two j a b p q h s) w =
        in_order_split j a b p (w 0 1 0 (omega arith) (omega arith)) h s
    small_or_earlier laws H (Three j a b d p q r h s) w =
        let (m, phi_in) = laws (seen_three code j s) in
        in_order_triple m phi_in j a b d p (w 0 1 0 (omega arith) (omega arith))
        (w 1 2 0 (omega arith) (omega arith)) h s

    -- each option has the value of one whose parts rise and are small but for the largest
    pub enough : Monoid c.order c.times → GivesElements (IsHeapIn M) c
        → (H : List ℕ) → HeapOption code n H
        → (L : List ℕ) × HeapOption code n L × IsSmallSplit (start + period) L
        × (value c L ≡ value c H)
    enough m phi_in H o =
        let (K, i, ordered, u) = put_in_order o in
        let (L, k, small, e, _) = small_or_earlier (λ _. (m, phi_in)) K i ordered in (
          L,
          k,
          small,
          e ∙ value_shuffled (IsHeapIn M) c m phi_in (back u) (kept i),
        )
