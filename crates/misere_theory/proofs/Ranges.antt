-- Ranges of numbers, and sums over them.
-- By induction on the length.
use Rattle.std.proofs.Common.{◌≡◌, ℕ, zero, suc, ◌+◌, ◌*◌, ◌<◌, ◌≤◌, [], ◌∷◌, refl, ◌∙◌, ap, arith}
use Rattle.std.specs.List.{sum_by, range_with_len}
use Rattle.std.proofs.lemmas.List.Sums.{sum_by-cons}

pub range_more : (a n m : ℕ) → n ≡ suc m → range_with_len a n ≡ a ∷ range_with_len (a + 1) m
range_more a n m e = ap (range_with_len a) e

pub range_none : (a n : ℕ) → n ≡ 0 → range_with_len a n ≡ []
range_none a n e = ap (range_with_len a) e

pub sum_more : (f : ℕ → ℕ) (a n m : ℕ) → n ≡ suc m
    → sum_by f (range_with_len a n) ≡ f a + sum_by f (range_with_len (a + 1) m)
sum_more f a n m e = ap (sum_by f) (range_more a n m e) ∙ sum_by-cons f a (range_with_len (a + 1) m)

pub sum_none : (f : ℕ → ℕ) (a n : ℕ) → n ≡ 0 → sum_by f (range_with_len a n) ≡ 0
sum_none f a n e = ap (λ k. sum_by f (range_with_len a k)) e

pub sum_at_most : (f : ℕ → ℕ) (M a n : ℕ) → ((x : ℕ) → a ≤ x → x < a + n → f x ≤ M)
    → sum_by f (range_with_len a n) ≤ n * M
sum_at_most f M a zero h = let e = sum_none f a 0 refl in omega arith
sum_at_most f M a (suc n) h =
    let e = sum_more f a (suc n) n refl in
    let here : f a ≤ M = h a (omega arith) (omega arith) in
    let rest : sum_by f (range_with_len (a + 1) n) ≤ n * M =
    sum_at_most f M (a + 1) n (λ x p q. h x (omega arith) (omega arith)) in
    let m : suc n * M ≡ n * M + M = grind arith in
    omega arith

pub sum_at_least : (f : ℕ → ℕ) (a n : ℕ) → ((x : ℕ) → 1 ≤ f x) → n ≤ sum_by f (range_with_len a n)
sum_at_least f a zero h = omega arith
sum_at_least f a (suc n) h =
    let e = sum_more f a (suc n) n refl in
    let here = h a in
    let rest = sum_at_least f (a + 1) n h in
    omega arith
