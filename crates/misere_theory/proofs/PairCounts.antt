-- Positions have at most order * 2 ^ order different pairs.
-- A pair has a number: its value, and the values of its options as bits. Different pairs have
-- different numbers.
use Rattle.std.proofs.Common.{◌≡◌, ℕ, suc, zero, ◌+◌, ◌*◌, ◌^◌, ◌<◌, ◌≤◌, ◌↔◌, ◌⊎◌, Bool, true, false, cond, List, [], ◌∷◌, refl, sym, ◌∙◌, ap, ap₂, subst, inl, inr, arith, length, map, get_or, AllPairs, eqb, eqb-true, ne_eqb, mul-le-mul_right, pow-suc, All}
use Rattle.std.proofs.Math.ListN.{length-map}
use Rattle.std.specs.List.{list_any, IsDistinct, AllByRecursion}
use Rattle.std.proofs.lemmas.Map.Steps.{length-le_from_distinct_below}
use native.Mathlib.Decide.{ℕ_discrete}
use Rattle.std.proofs.lemmas.List.Elements.{recursion_from_All, All-map}
use Rattle.misere_theory.specs.Games.{IsPosition}
use Rattle.misere_theory.specs.Quotients.{Claim, Monoid, GivesElements, value, OptionValue, SamePair, ReachesMoreThan}
use Rattle.misere_theory.specs.Parts.{IsPart}
use Rattle.misere_theory.proofs.Sums.{value_in, move_kept}
use Rattle.misere_theory.proofs.Outcomes.{some_or_all_moves}
use Rattle.std.specs.Cmp.{both_ways}
use Rattle.misere_theory.proofs.Basics.{neither_smaller}
use Rattle.std.proofs.lemmas.Bool.{cases_eq}
use Rattle.std.proofs.lemmas.List.Folds.{Any-from_list_any}

-- the numbers below n that pass, as bits
mask : (ℕ → Bool) → ℕ → ℕ
mask f zero = 0
mask f (suc n) = mask f n + cond (f n) (2 ^ n) 0

bit_room : (b : Bool) (x w : ℕ) → x < w → x + cond b w 0 < w * 2
bit_room true x w h = omega arith
bit_room false x w h = omega arith

bit_same : (a b : Bool) (x y w : ℕ) → x < w → y < w → x + cond a w 0 ≡ y + cond b w 0
    → (x ≡ y) × (a ≡ b)
bit_same true true x y w h k e = (omega arith, refl)
bit_same true false x y w h k e = absurd (omega arith)
bit_same false true x y w h k e = absurd (omega arith)
bit_same false false x y w h k e = (omega arith, refl)

mask-below : (f : ℕ → Bool) (n : ℕ) → mask f n < 2 ^ n
unfolding mask
mask-below f zero = omega arith
mask-below f (suc n) = rw pow-suc (bit_room (f n) (mask f n) (2 ^ n) (mask-below f n))

mask-same : (f g : ℕ → Bool) (n : ℕ) → mask f n ≡ mask g n → (i : ℕ) → i < n → f i ≡ g i
unfolding mask
mask-same f g zero e i h = absurd (omega arith)
mask-same f g (suc n) e i h =
    let (a, b) =
    bit_same (f n) (g n) (mask f n) (mask g n) (2 ^ n) (mask-below f n) (mask-below g n) e in
    elim (ℕ_discrete i n) [
      | yes d ↦ ap f d ∙ b ∙ ap g (sym d)
      | no k ↦ mask-same f g n a i
          (omega arith)
    ]

mask-agrees : (f g : ℕ → Bool) (n : ℕ) → ((i : ℕ) → f i ≡ g i) → mask f n ≡ mask g n
unfolding mask
mask-agrees f g zero h = refl
mask-agrees f g (suc n) h = ap₂ (λ a b. a + cond b (2 ^ n) 0) (mask-agrees f g n h) (h n)

digits_below : (u v w m n : ℕ) → u < v → m < w → u * w + m < v * w + n
digits_below u v w m n h k = let l : suc u * w ≤ v * w = mul-le-mul_right w h in omega arith

digits_same : (u v w m n : ℕ) → m < w → n < w → u * w + m ≡ v * w + n → (u ≡ v) × (m ≡ n)
digits_same u v w m n h k e =
    let d = neither_smaller u v (λ l. let o = digits_below u v w m n l h in omega arith)
    (λ l. let o = digits_below v u w n m l k in omega arith) in
    (d, let s = ap (λ z. z * w) d in omega arith)

module _
    (heap : ℕ → Type 0) (code : List ℕ) (kept : IsPart heap code) (c : Claim)
    (m : Monoid c.order c.times)
    (phi_in : GivesElements heap c) where
  -- whether x is the value of an option of X
  tested : (X : List ℕ) (x : ℕ) → (b : Bool) × ((b ≡ true) ↔ OptionValue code c X x)
  tested X x =
      elim (some_or_all_moves code _ _ X (λ Y i. cases_eq (value c Y) x)) [
        | inl (Y, i, e) ↦ (true, (λ _. (Y, i, e), λ _. refl))
        | inr all ↦ (false, (λ e. cc, λ o. absurd (all o.0 o.1 o.2)))
      ]

  number_of : List ℕ → ℕ
  number_of X = value c X * 2 ^ c.order + mask (λ x. (tested X x).0) c.order

  number-below : (X : List ℕ) → IsPosition heap X → number_of X < c.order * 2 ^ c.order
  unfolding number_of
  number-below X w =
      let v = value_in heap c m phi_in X w in
      let o = digits_below (value c X) c.order (2 ^ c.order) (mask (λ x. (tested X x).0) c.order) 0
      v (mask-below _ c.order) in
      omega arith

  pair_from_number : (X Y : List ℕ) → IsPosition heap X → IsPosition heap Y
      → number_of X ≡ number_of Y → SamePair code c X Y
  unfolding number_of
  pair_from_number X Y p q e =
      let (a, b) =
      digits_same (value c X) (value c Y) (2 ^ c.order) _ _
      (mask-below (λ x. (tested X x).0) c.order) (mask-below (λ x. (tested Y x).0) c.order) e in (
        a,
        λ x. (
          λ o. (tested Y x).1.0
              (sym (mask-same (λ i. (tested X i).0) (λ i. (tested Y i).0) c.order b x
              (in_order p o)) ∙ (tested X x).1.1 o),
          λ o. (tested X x).1.0
              (mask-same (λ i. (tested X i).0) (λ i. (tested Y i).0) c.order b x (in_order q o)
              ∙ (tested Y x).1.1 o),
        ),
      )
    where
      in_order : {Z : List ℕ} {x : ℕ} → IsPosition heap Z → OptionValue code c Z x → x < c.order
      in_order r o =
          subst (λ v. v < c.order) o.2
          (value_in heap c m phi_in o.0 (move_kept heap code kept o.1 r))

  number_from_pair : (X Y : List ℕ) → SamePair code c X Y → number_of X ≡ number_of Y
  unfolding number_of
  number_from_pair X Y s =
      ap₂ (λ v w. v * 2 ^ c.order + w) s.0
      (mask-agrees (λ x. (tested X x).0) (λ x. (tested Y x).0) c.order (λ x. both_ways _ _
      (λ t. (tested Y x).1.1 ((s.1 x).0 ((tested X x).1.0 t)))
      (λ t. (tested X x).1.1 ((s.1 x).1 ((tested Y x).1.0 t)))))

  -- two positions have the same pair or they do not
  pub same_pair_dec : (X Y : List ℕ) → IsPosition heap X → IsPosition heap Y → SamePair code c X Y
      ⊎ (SamePair code c X Y → ⊥)
  same_pair_dec X Y p q = elim (ℕ_discrete (number_of X) (number_of Y)) [
    | yes e ↦ inl (pair_from_number X Y p q e)
    | no f ↦ inr (λ s. f (number_from_pair X Y s))
  ]

  differs_from_all : (X : List ℕ) (Xs : List (List ℕ)) → IsPosition heap X
      → AllByRecursion (IsPosition heap) Xs
      → ((k : ℕ) (d : List ℕ) → k < length Xs → SamePair code c X (get_or Xs k d) → ⊥)
      → AllByRecursion (λ y. eqb (number_of X) y ≡ false) (map number_of Xs)
  differs_from_all X [] p r h = tt
  differs_from_all X (Y ∷ Ys) p r h = (
    ne_eqb _ _ (λ e. h 0 Y (omega arith) (pair_from_number X Y p r.0 e)),
    differs_from_all X Ys p r.1 (λ k d l. h (suc k) d (omega arith)),
  )

  distinct_numbers : (Xs : List (List ℕ)) → AllByRecursion (IsPosition heap) Xs
      → AllPairs (λ X Y. SamePair code c X Y → ⊥) Xs
      → IsDistinct eqb (map number_of Xs)
  unfolding IsDistinct
  distinct_numbers [] r h = tt
  distinct_numbers (X ∷ Xs) r h = (
    differs_from_all X Xs r.0 r.1 (λ k d l. h 0 (suc k) d (omega arith) (omega arith)),
    distinct_numbers Xs r.1 (λ i j d p q. h (suc i) (suc j) d (omega arith) (omega arith)),
  )

  all_below : (Xs : List (List ℕ)) → All (IsPosition heap) Xs → (q : ℕ)
      → list_any (eqb q) (map number_of Xs) ≡ true
      → q < c.order * 2 ^ c.order
  all_below Xs all q e =
      let (j, d, l, at, h) = Any-from_list_any (eqb q) (map number_of Xs) e in
      let below = All-map (λ n. n < c.order * 2 ^ c.order) number_of Xs
      (λ k Y b. number-below _ (all k Y b)) j d l in
      let is = eqb-true q d h in
      omega (arith, at)

  -- so a closure with a limit of order * 2 ^ order never passes it
  pub reach_bound : (limit : ℕ) → ReachesMoreThan heap code c limit → limit < c.order * 2 ^ c.order
  reach_bound limit (Xs, more, all, apart) =
      let r = recursion_from_All (IsPosition heap) Xs all in
      let l =
      length-le_from_distinct_below (map number_of Xs) (c.order * 2 ^ c.order)
      (distinct_numbers Xs r apart) (all_below Xs all) in
      let same = length-map Xs number_of in omega arith
