-- Some element of a list has the property.
use Rattle.std.proofs.Common.{◌≡◌, ℕ, Bool, true, false, ◌||◌, ◌==◌, List, [], ◌∷◌, refl, sym, subst, arith, tests}
use Rattle.std.specs.List.{list_any}

or_right : (a b : Bool) → b ≡ true → (a || b) ≡ true
or_right true b e = refl
or_right false b e = e

any_step : (f : ℕ → Bool) (y : ℕ) (ys : List ℕ) (x : ℕ) (v : Bool) → (y == x) ≡ v
    → (list_any (λ z. z == x) ys ≡ true → list_any f ys ≡ true)
    → list_any (λ z. z == x) (y ∷ ys) ≡ true → f x ≡ true → list_any f (y ∷ ys) ≡ true
any_step f y ys x true e more m t = let d : y ≡ x = grind (arith, tests) in let u : f y ≡ true =
    subst (λ v. f v ≡ true) (sym d) t in rw u refl
any_step f y ys x false e more m t = let n : list_any (λ z. z == x) ys ≡ true = rw e at m in
    or_right (f y) (list_any f ys) (more n)

pub any_of : (f : ℕ → Bool) (xs : List ℕ) (x : ℕ) → list_any (λ z. z == x) xs ≡ true → f x ≡ true
    → list_any f xs ≡ true
any_of f [] x m t = absurd (cc)
any_of f (y ∷ ys) x m t = any_step f y ys x (y == x) refl (λ n. any_of f ys x n t) m t

any_here : (f : ℕ → Bool) (y : ℕ) (ys : List ℕ) (v : Bool) → f y ≡ v
    → (list_any f ys ≡ true → (x : ℕ) × (list_any (λ z. z == x) ys ≡ true) × (f x ≡ true))
    → list_any f (y ∷ ys) ≡ true → (x : ℕ) × (list_any (λ z. z == x) (y ∷ ys) ≡ true) × (f x ≡ true)
any_here f y ys true e more t = let d : (y == y) ≡ true = grind (arith, tests) in (y, rw d refl, e)
any_here f y ys false e more t = let n : list_any f ys ≡ true = rw e at t in let (x, m, u) = more n
    in (x, or_right (y == x) _ m, u)

pub any_in : (f : ℕ → Bool) (xs : List ℕ) → list_any f xs ≡ true
    → (x : ℕ) × (list_any (λ z. z == x) xs ≡ true) × (f x ≡ true)
any_in f [] t = absurd (cc)
any_in f (y ∷ ys) t = any_here f y ys (f y) refl (any_in f ys) t
