-- The same heaps, rising, are one list.
-- So a position that the keys of an element spell is one list, in whatever order it was made.
use Rattle.std.proofs.Common.{◌≡◌, ℕ, zero, suc, ◌<◌, ◌≤◌, true, false, nat_lt, List, [], ◌∷◌, IsPermutation, refl, sym, ◌∙◌, ap, arith, tests, ◌==◌}
use Rattle.std.specs.List.Sorted.{IsNonDecreasing}
use native.Mathlib.Decide.{dec_lt}
use Rattle.misere_theory.specs.Certificates.{Certificate, Canonical, IsSpelled, key_of}
use Rattle.misere_theory.specs.Certificates.IsSpelled.{Zero, Key}
use Rattle.misere_theory.proofs.Shuffles.{Shuffled, from_permutation}
use Rattle.misere_theory.proofs.Shuffles.Shuffled.{Same, Under, Flip, Then}
use Rattle.pair_closure.specs.Positions.{put, rising}
use Rattle.check_machine.specs.Turns.{keys_from}

put_after : (h x : ℕ) (xs : List ℕ) → x < h → put h (x ∷ xs) ≡ x ∷ put h xs
put_after h x xs l = let e : nat_lt x h ≡ true = grind (arith, tests) in rw e

put_before : (h x : ℕ) (xs : List ℕ) → h ≤ x → put h (x ∷ xs) ≡ h ∷ x ∷ xs
put_before h x xs l = let e : nat_lt x h ≡ false = grind (arith, tests) in rw e

-- two heaps put in front of all others
pairs_put : (a b x : ℕ) (xs : List ℕ) → a ≤ b → b ≤ x
    → put a (put b (x ∷ xs)) ≡ put b (put a (x ∷ xs))
pairs_put a b x xs s l =
    let left : put a (put b (x ∷ xs)) ≡ a ∷ b ∷ x ∷ xs =
    ap (put a) (put_before b x xs l) ∙ put_before a b (x ∷ xs) s in
    let first : put b (put a (x ∷ xs)) ≡ put b (a ∷ x ∷ xs) =
    ap (put b) (put_before a x xs (omega arith)) in
    elim (dec_lt a b) [
      | yes h ↦ left
          ∙ sym (first ∙ (put_after b a (x ∷ xs) h ∙ ap (λ ys. a ∷ ys) (put_before b x xs l)))
      | no f ↦ (let d : a ≡ b = omega arith in
          ap (λ m. put m (put b (x ∷ xs))) d ∙ sym (ap (λ m. put b (put m (x ∷ xs))) d))
    ]

put_twice : (a b : ℕ) → put a (put b []) ≡ put b (put a [])
put_twice a b = elim (dec_lt a b) [
  | yes h ↦ put_before a b [] (omega arith) ∙ sym (put_after b a [] h)
  | no f ↦ elim (dec_lt b a) [
    | yes h ↦ put_after a b [] h ∙ sym (put_before b a [] (omega arith))
    | no g ↦ (let d : a ≡ b = omega arith in
        ap (λ m. put m (put b [])) d ∙ sym (ap (λ m. put b (put m [])) d))
  ]
]

put_both : (a b : ℕ) (xs : List ℕ) → put a (put b xs) ≡ put b (put a xs)
put_both a b [] = put_twice a b
put_both a b (x ∷ xs) = elim (dec_lt x a) [
  | yes ha ↦ elim (dec_lt x b) [
    | yes hb ↦
        ap (put a) (put_after b x xs hb)
        ∙ (put_after a x (put b xs) ha ∙ (ap (λ ys. x ∷ ys) (put_both a b xs)
        ∙ sym (ap (put b) (put_after a x xs ha) ∙ put_after b x (put a xs) hb)))
    | no fb ↦
        ap (put a) (put_before b x xs (omega arith))
        ∙ (put_after a b (x ∷ xs) (omega arith) ∙ (ap (λ ys. b ∷ ys) (put_after a x xs ha)
        ∙ sym (ap (put b) (put_after a x xs ha) ∙ put_before b x (put a xs) (omega arith))))
  ]
  | no fa ↦ elim (dec_lt x b) [
    | yes hb ↦
        ap (put a) (put_after b x xs hb) ∙ (put_before a x (put b xs) (omega arith)
        ∙ sym (ap (put b) (put_before a x xs (omega arith))
        ∙ (put_after b a (x ∷ xs) (omega arith) ∙ ap (λ ys. a ∷ ys) (put_after b x xs hb))))
    | no fb ↦ elim (dec_lt b a) [
      | yes h ↦ sym (pairs_put b a x xs (omega arith) (omega arith))
      | no f ↦ pairs_put a b x xs (omega arith) (omega arith)
    ]
  ]
]

-- the order before doesn't matter
pub rising_same : {X Y : List ℕ} → Shuffled X Y → rising X ≡ rising Y
rising_same Same = refl
rising_same (Under {n = n} s) = ap (put n) (rising_same s)
rising_same (Flip {a = a} {b = b} {X = X}) = put_both a b (rising X)
rising_same (Then s t) = rising_same s ∙ rising_same t

tail_rises : (x : ℕ) (xs : List ℕ) → IsNonDecreasing (x ∷ xs) → IsNonDecreasing xs
tail_rises x xs r i j d l b = r (suc i) (suc j) d (omega arith) (omega arith)

put_first : (x : ℕ) (xs : List ℕ) → IsNonDecreasing (x ∷ xs) → put x xs ≡ x ∷ xs
put_first x [] r = refl
put_first x (y ∷ ys) r = put_before x y ys (r 0 1 0 (omega arith) (omega arith))

-- what rises stays
risen : (xs : List ℕ) → IsNonDecreasing xs → rising xs ≡ xs
risen [] r = refl
risen (x ∷ xs) r = ap (put x) (risen xs (tail_rises x xs r)) ∙ put_first x xs r

pub rising_is : (X Y : List ℕ) → IsPermutation X Y → IsNonDecreasing Y → Y ≡ rising X
rising_is X Y s r = sym (rising_same (from_permutation X Y s) ∙ risen Y r)

-- The heaps that the keys of an element spell.
module _ (c : Certificate) where
  pub keys_none : (n : ℕ) → keys_from c n 0 ≡ []
  unfolding keys_from
  keys_none zero = refl
  keys_none (suc n) = refl

  pub keys_some : (n e : ℕ) → 0 < e
      → keys_from c (suc n) e ≡ (key_of c e).1 ∷ keys_from c n (key_of c e).0
  unfolding keys_from
  keys_some n e p = let f : (e == 0) ≡ false = grind (arith, tests) in rw f

  -- what the keys spell is those heaps, where enough keys are looked at
  pub keys_are : Canonical c → (n e : ℕ) (X : List ℕ) → e ≤ n → e < c.order → IsSpelled c e X
      → keys_from c n e ≡ X
  keys_are k n _ _ a l Zero = keys_none n
  keys_are k zero _ _ a l (Key e p w) = absurd (omega arith)
  keys_are k (suc n) _ _ a l (Key e p w) =
      let up = k.numbered.parent e p l in
      keys_some n e p ∙ ap (λ ks. (key_of c e).1 ∷ ks)
      (keys_are k n (key_of c e).0 _ (omega arith) (omega arith) w)

-- a heap more
pub rising_with : (n : ℕ) (W X K : List ℕ) → IsPermutation (n ∷ W) X → IsNonDecreasing X
    → rising W ≡ rising K → X ≡ rising (n ∷ K)
rising_with n W X K s r is = rising_is (n ∷ W) X s r ∙ ap (put n) is
