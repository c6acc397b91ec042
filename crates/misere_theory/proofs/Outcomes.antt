-- Each position is P or N, and none is both.
-- By induction on the measure. A position has finitely many moves, and so they can be searched.
use Rattle.std.proofs.Common.{◌≡◌, ℕ, suc, zero, ◌+◌, ◌-◌, ◌<◌, ◌≤◌, ◌⊎◌, List, [], ◌∷◌, ◌++◌, refl, sym, subst, inl, inr, arith, bit_and, ◌^◌, IsBitSet, eq-zero-or-pos, eq-or-lt_of_le, le_of_suc-le-suc}
use native.Mathlib.Decide.{dec_le}
use Rattle.misere_theory.specs.Games.{digit, HeapOption, Move, measure, IsP, IsN}
use Rattle.misere_theory.specs.Games.HeapOption.{Nothing, One, Two, Three}
use Rattle.misere_theory.specs.Games.Move.{Here, There}
use Rattle.misere_theory.specs.Games.IsP.{AllLose}
use Rattle.misere_theory.specs.Games.IsN.{Ended, Wins}
use Rattle.misere_theory.proofs.Sums.{first_or_rest, no_move_of_none, move_smaller}
use Rattle.misere_theory.proofs.Basics.{both_dec}

-- no position is both
mutual
  pub not_both : {code X : List ℕ} → IsP code X → IsN code X → ⊥
  not_both (AllLose m all) (Ended none) = none _ m
  not_both (AllLose m all) (Wins k p) = never_both (all _ k) p

  pub never_both : {code X : List ℕ} → IsN code X → IsP code X → ⊥
  never_both (Ended none) (AllLose m all) = none _ m
  never_both (Wins k p) (AllLose m all) = not_both p (all _ k)

-- what a P-position has
pub p_moves : {code X : List ℕ} → IsP code X → (Y : List ℕ) × Move code X Y
p_moves (AllLose m all) = (_, m)

pub p_leads_to_n : {code X : List ℕ} → IsP code X → (Z : List ℕ) → Move code X Z → IsN code Z
p_leads_to_n (AllLose m all) = all

-- Below a bound either one number has a fact, or each has the other.
pub some_or_all_below : (Q R : ℕ → Type 0) → ((k : ℕ) → Q k ⊎ R k) → (n : ℕ)
    → ((k : ℕ) × (k < n) × Q k) ⊎ ((k : ℕ) → k < n → R k)
some_or_all_below Q R test zero = inr (λ k h. absurd (omega arith))
some_or_all_below Q R test (suc n) =
    elim (some_or_all_below Q R test n) [
      | inl (k, h, q) ↦ inl (k, omega arith, q)
      | inr all ↦ elim (test n) [
        | inl q ↦ inl (n, omega arith, q)
        | inr r ↦ inr
            (λ k h. elim (eq-or-lt_of_le (le_of_suc-le-suc h))
            [ inl e ↦ subst R (sym e) r | inr l ↦ all k l ])
      ]
    ]

bit_dec : (d k : ℕ) → Dec (IsBitSet d k)
bit_dec d k =
    elim (eq-zero-or-pos (bit_and d (2 ^ k)))
    [ inl e ↦ no (λ h. h e) | inr l ↦ yes (λ e. omega arith) ]

module _ (code : List ℕ) (n : ℕ) where
  -- what an option that leaves nothing says
  pub nothing_says : HeapOption code n [] → (1 ≤ n) × IsBitSet (digit code n) 0
  nothing_says (Nothing j p e b) = (omega arith, subst (λ i. IsBitSet (digit code i) 0) (sym e) b)

  one_says : (a : ℕ) → HeapOption code n (a ∷ [])
      → (1 ≤ n - a) × ((1 ≤ a) × IsBitSet (digit code (n - a)) 1)
  one_says a (One j _ p q e b) = let f : j ≡ n - a = omega arith in
      (omega arith, (q, subst (λ i. IsBitSet (digit code i) 1) f b))

  two_says : (a b : ℕ) → HeapOption code n (a ∷ b ∷ [])
      → (1 ≤ a) × ((1 ≤ b) × ((a + b ≤ n) × IsBitSet (digit code (n - (a + b))) 2))
  two_says a b (Two j _ _ p q e s) = let f : j ≡ n - (a + b) = omega arith in
      (p, (q, (omega arith, subst (λ i. IsBitSet (digit code i) 2) f s)))

  three_says : (a b c : ℕ) → HeapOption code n (a ∷ b ∷ c ∷ [])
      → (1 ≤ a)
      × ((1 ≤ b) × ((1 ≤ c) × ((a + b + c ≤ n) × IsBitSet (digit code (n - (a + b + c))) 3)))
  three_says a b c (Three j _ _ _ p q r e s) = let f : j ≡ n - (a + b + c) = omega arith in
      (p, (q, (r, (omega arith, subst (λ i. IsBitSet (digit code i) 3) f s))))

  option_dec : (H : List ℕ) → Dec (HeapOption code n H)
  option_dec [] =
      elim (both_dec (dec_le 1 n) (bit_dec (digit code n) 0))
      [ yes (l, b) ↦ yes (Nothing n l refl b) | no f ↦ no (λ o. f (nothing_says o)) ]
  option_dec (a ∷ []) =
      elim (both_dec (dec_le 1 (n - a)) (both_dec (dec_le 1 a) (bit_dec (digit code (n - a)) 1))) [
        | yes (l, (p, b)) ↦ yes (One (n - a) a l p (omega arith) b)
        | no f ↦ no (λ o. f (one_says a o))
      ]
  option_dec (a ∷ b ∷ []) =
      elim (both_dec (dec_le 1 a)
      (both_dec (dec_le 1 b)
      (both_dec (dec_le (a + b) n) (bit_dec (digit code (n - (a + b))) 2)))) [
        | yes (p, (q, (l, s))) ↦ yes (Two (n - (a + b)) a b p q (omega arith) s)
        | no f ↦ no (λ o. f (two_says a b o))
      ]
  option_dec (a ∷ b ∷ c ∷ []) =
      elim (both_dec (dec_le 1 a)
      (both_dec (dec_le 1 b)
      (both_dec (dec_le 1 c)
      (both_dec (dec_le (a + b + c) n) (bit_dec (digit code (n - (a + b + c))) 3))))) [
        | yes (p, (q, (r, (l, s)))) ↦ yes (Three (n - (a + b + c)) a b c p q r (omega arith) s)
        | no f ↦ no (λ o. f (three_says a b c o))
      ]
  option_dec (a ∷ b ∷ c ∷ d ∷ H) = no (λ o. elim o [ ])

  module _ (Q R : List ℕ → Type 0) (test : (H : List ℕ) → HeapOption code n H → Q H ⊎ R H) where
    option_test : (H : List ℕ) → (HeapOption code n H × Q H) ⊎ (HeapOption code n H → R H)
    option_test H =
        elim (option_dec H) [
          | no f ↦ inr (λ o. absurd (f o))
          | yes o ↦ elim (test H o)
              [ inl q ↦ inl (o, q) | inr r ↦ inr (λ _. r) ]
        ]

    gathered :
        (HeapOption code n [] → R [])
        → ((a : ℕ) → a < suc n → HeapOption code n (a ∷ []) → R (a ∷ []))
        → ((a : ℕ) → a < suc n → (b : ℕ) → b < suc n → HeapOption code n (a ∷ b ∷ [])
        → R (a ∷ b ∷ []))
        → ((a : ℕ) → a < suc n → (b : ℕ) → b < suc n → (c : ℕ) → c < suc n
        → HeapOption code n (a ∷ b ∷ c ∷ [])
        → R (a ∷ b ∷ c ∷ []))
        → (H : List ℕ) → HeapOption code n H → R H
    gathered none one two three _ (Nothing j p e b) = none (Nothing j p e b)
    gathered none one two three _ (One j a p q e b) = one a (omega arith) (One j a p q e b)
    gathered none one two three _ (Two j a b p q e s) =
        two a (omega arith) b (omega arith) (Two j a b p q e s)
    gathered none one two three _ (Three j a b c p q r e s) =
        three a (omega arith) b (omega arith) c (omega arith) (Three j a b c p q r e s)

    -- either one option of the heap has the one fact, or each has the other
    pub some_or_all_options : ((H : List ℕ) × HeapOption code n H × Q H)
        ⊎ ((H : List ℕ) → HeapOption code n H → R H)
    some_or_all_options =
        elim (option_test []) [
          | inl (o, q) ↦ inl ([], o, q)
          | inr none ↦ elim (some_or_all_below _ _ (λ a. option_test (a ∷ [])) (suc n)) [
            | inl (a, _, (o, q)) ↦ inl (a ∷ [], o, q)
            | inr one ↦ elim
                (some_or_all_below _ _
                (λ a. some_or_all_below _ _ (λ b. option_test (a ∷ b ∷ [])) (suc n)) (suc n)) [
                  | inl (a, _, (b, _, (o, q))) ↦ inl (a ∷ b ∷ [], o, q)
                  | inr two ↦ elim
                      (some_or_all_below _ _
                      (λ a. some_or_all_below _ _
                      (λ b. some_or_all_below _ _ (λ c. option_test (a ∷ b ∷ c ∷ [])) (suc n))
                      (suc n)) (suc n)) [
                        | inl (a, _, (b, _, (c, _, (o, q)))) ↦ inl (a ∷ b ∷ c ∷ [], o, q)
                        | inr three ↦ inr (gathered none one two three)
                      ]
                ]
          ]
        ]

-- either one move leads to the one fact, or each to the other
pub some_or_all_moves : (code : List ℕ) (Q R : List ℕ → Type 0) (X : List ℕ)
    → ((Y : List ℕ) → Move code X Y → Q Y ⊎ R Y)
    → ((Y : List ℕ) × Move code X Y × Q Y) ⊎ ((Y : List ℕ) → Move code X Y → R Y)
some_or_all_moves code Q R [] test = inr (λ Y m. absurd (no_move_of_none m))
some_or_all_moves code Q R (n ∷ X) test =
    elim (some_or_all_options code n (λ H. Q (H ++ X)) (λ H. R (H ++ X))
    (λ H o. test (H ++ X) (Here o refl))) [
      | inl (H, o, q) ↦ inl (H ++ X, Here o refl, q)
      | inr here ↦ elim
          (some_or_all_moves code (λ Y. Q (n ∷ Y)) (λ Y. R (n ∷ Y)) X
          (λ Y m. test (n ∷ Y) (There m refl))) [
            | inl (Y, m, q) ↦ inl (n ∷ Y, There m refl, q)
            | inr there ↦ inr (λ Y m. elim (first_or_rest m) [
              | inl (H, o, e) ↦ subst R (sym e) (here H o)
              | inr (X', k, e) ↦ subst R (sym e) (there X' k)
            ])
          ]
    ]

-- a position has a move or has none
pub movable : (code X : List ℕ) → ((Y : List ℕ) × Move code X Y)
    ⊎ ((Y : List ℕ) → Move code X Y → ⊥)
movable code X =
    elim (some_or_all_moves code (λ _. Unit {0}) (λ _. ⊥) X (λ Y m. inl tt))
    [ inl (Y, m, _) ↦ inl (Y, m) | inr none ↦ inr none ]

determined_within : (code : List ℕ) (k : ℕ) (X : List ℕ) → measure X < k → IsP code X ⊎ IsN code X
determined_within code zero X h = absurd (omega arith)
determined_within code (suc k) X h =
    elim (some_or_all_moves code (IsP code) (IsN code) X
    (λ Y m. determined_within code k Y (omega (arith, move_smaller m)))) [
      | inl (Y, m, p) ↦ inr (Wins m p)
      | inr all ↦ elim (movable code X)
          [ inl (Y, m) ↦ inl (AllLose m all) | inr none ↦ inr (Ended none) ]
    ]

-- each position is P or N
pub determined : (code X : List ℕ) → IsP code X ⊎ IsN code X
determined code X = determined_within code (suc (measure X)) X (omega arith)
