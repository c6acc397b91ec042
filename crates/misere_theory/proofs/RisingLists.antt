-- Rising lists with the same elements are the same.
-- A first element that is smaller than the other's is missing there; so the first ones are equal,
-- and then the rests.
use Rattle.std.proofs.Common.{◌≡◌, ℕ, suc, ◌+◌, ◌<◌, ⊎_elim, cond, eqb, List, [], ◌∷◌, refl, sym, ap, ap₂, ◌∙◌, arith, All, sum_by, length, get_or, ◌≤◌}
use Rattle.std.specs.List.Sorted.{IsNonDecreasing, IsPermutation, IsStrictlyIncreasing}
use Rattle.std.proofs.lemmas.Bool.{cases_lt}
use Rattle.std.proofs.lemmas.Bool.Decides.{nat_tests}
use Rattle.std.proofs.lemmas.List.Elements.{All-head, All-tail}
use Rattle.std.proofs.lemmas.List.Sorted.{sum_by-IsPermutation}
use Rattle.std.proofs.lemmas.List.Sums.{sum_by-cons}

-- the numbers rise from low on and stay below q
abbrev pub RisesFrom : ℕ → ℕ → List ℕ → Type 0
RisesFrom low q [] = Unit {0}
RisesFrom low q (x ∷ xs) = (low ≤ x) × (x < q) × RisesFrom (x + 1) q xs

pub increasing_rises : (low q : ℕ) (xs : List ℕ) → (1 ≤ length xs → low ≤ get_or xs 0 0)
    → All (λ x. x < q) xs → IsStrictlyIncreasing xs → RisesFrom low q xs
increasing_rises low q [] from below up = tt
increasing_rises low q (x ∷ xs) from below up = (
  from (omega arith),
  below 0 0 (omega arith),
  increasing_rises (x + 1) q xs (λ some. let s = up 0 (omega arith) in omega arith)
      (All-tail (λ y. y < q) x xs below)
      (λ k l. let e : suc k + 1 ≡ suc (k + 1) = omega arith in rw e at (up (suc k) (omega arith))),
)

-- whatever the elements count, both lists have the same sum
abbrev pub SameSums : List ℕ → List ℕ → Type 0
SameSums xs ys = (f : ℕ → ℕ) → sum_by f xs ≡ sum_by f ys

-- 1 at v
at : ℕ → ℕ → ℕ
at v z = cond (eqb z v) 1 0

at-same : (v : ℕ) → at v v ≡ 1
unfolding at
at-same v = grind (arith, nat_tests)

at-above : (v z : ℕ) → v < z → at v z ≡ 0
unfolding at
at-above v z l = grind (arith, nat_tests)

none_at : (v : ℕ) (ys : List ℕ) → All (λ z. v < z) ys → sum_by (at v) ys ≡ 0
none_at v [] h = refl
none_at v (y ∷ ys) h =
    sum_by-cons (at v) y ys ∙ ap₂ (λ m n. m + n) (at-above v y (All-head (λ z. v < z) y ys h))
    (none_at v ys (All-tail (λ z. v < z) y ys h))

some_at : (v : ℕ) (ys : List ℕ) → sum_by (at v) (v ∷ ys) ≡ 0 → ⊥
some_at v ys e = let s = sum_by-cons (at v) v ys in let o = at-same v in absurd (omega arith)

rising_above : (v y : ℕ) (ys : List ℕ) → IsNonDecreasing (y ∷ ys) → v < y
    → All (λ z. v < z) (y ∷ ys)
rising_above v y ys up l = λ k d h. let r = up 0 k d (omega arith) h in omega arith

rising_tail : (y : ℕ) (ys : List ℕ) → IsNonDecreasing (y ∷ ys) → IsNonDecreasing ys
rising_tail y ys up = λ i j d l h. up (suc i) (suc j) d (omega arith) (omega arith)

not_less : (x y : ℕ) (xs ys : List ℕ) → IsNonDecreasing (y ∷ ys) → SameSums (x ∷ xs) (y ∷ ys)
    → x < y → ⊥
not_less x y xs ys up same l =
    some_at x xs (same (at x) ∙ none_at x (y ∷ ys) (rising_above x y ys up l))

head_same : (x y : ℕ) (xs ys : List ℕ) → IsNonDecreasing (x ∷ xs) → IsNonDecreasing (y ∷ ys)
    → SameSums (x ∷ xs) (y ∷ ys) → x ≡ y
head_same x y xs ys up vp same =
    ⊎_elim (λ l. absurd (not_less x y xs ys vp same l))
    (λ l. ⊎_elim (λ m. absurd (not_less y x ys xs up (λ f. sym (same f)) m)) (λ m. omega arith)
    (cases_lt y x)) (cases_lt x y)

same_sums : (xs ys : List ℕ) → IsNonDecreasing xs → IsNonDecreasing ys → SameSums xs ys → xs ≡ ys
same_sums [] [] up vp same = refl
same_sums [] (y ∷ ys) up vp same = absurd (some_at y ys (sym (same (at y))))
same_sums (x ∷ xs) [] up vp same = absurd (some_at x xs (same (at x)))
same_sums (x ∷ xs) (y ∷ ys) up vp same =
    let e = head_same x y xs ys up vp same in
    ap₂ (λ z zs. z ∷ zs) e (same_sums xs ys (rising_tail x xs up) (rising_tail y ys vp)
    (λ f. let s = same f in let p = sum_by-cons f x xs in let q = sum_by-cons f y ys in
    let h : f x ≡ f y = ap f e in omega arith))

pub rising_same : (xs ys : List ℕ) → IsNonDecreasing xs → IsNonDecreasing ys → IsPermutation xs ys
    → xs ≡ ys
rising_same xs ys up vp s = same_sums xs ys up vp (λ f. sym (sum_by-IsPermutation f xs ys s))
