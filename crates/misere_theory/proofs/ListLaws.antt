-- Membership in lists over a range, and lists whose items are apart.
-- By induction on the range or the list.
use Rattle.std.proofs.Common.{◌≡◌, ℕ, zero, suc, ◌+◌, ◌<◌, ◌≤◌, inl, inr, List, [], ◌∷◌, ◌++◌, map, subst, arith, All, refl, ap}
use Rattle.std.specs.List.{flat_map, range_with_len, Contains, AllPairs}
use Rattle.std.proofs.lemmas.List.Elements.{Contains-append_left, Contains-append_right, Contains-append_cases, Contains-push, Contains-push_cases, All-weaker, All-append, All-contains_itself}
use Rattle.std.proofs.lemmas.List.Kept.{AllPairs-cons}
use native.Mathlib.Decide.{dec_le}

pub nothing_in : {X : Type 0} (x : X) → Contains [] x → ⊥
nothing_in x c = let (k, l, e) = c in omega arith

pub only_in : {X : Type 0} (y x : X) → Contains (y ∷ []) x → y ≡ x
only_in y x c = elim (Contains-push_cases [] y x c) [ inl h ↦ absurd (nothing_in x h) | inr e ↦ e ]

pub itself_in : {X : Type 0} (x : X) → Contains (x ∷ []) x
itself_in x = Contains-push [] x

module _ {X : Type 0} (f : ℕ → List X) where
  pub in_flat : (a n j : ℕ) (x : X) → a ≤ j → j < a + n → Contains (f j) x
      → Contains (flat_map f (range_with_len a n)) x
  in_flat a zero j x l h c = absurd (omega arith)
  in_flat a (suc n) j x l h c = elim (dec_le (a + 1) j) [
    | yes past ↦ Contains-append_right (f a) (flat_map f (range_with_len (a + 1) n)) x
        (in_flat (a + 1) n j x past (omega arith) c)
    | no here ↦
        let e : j ≡ a = omega arith in
        Contains-append_left (f a) (flat_map f (range_with_len (a + 1) n)) x
        (subst (λ i. Contains (f i) x) e c)
  ]

  pub of_flat : (a n : ℕ) (x : X) → Contains (flat_map f (range_with_len a n)) x
      → (j : ℕ) × (a ≤ j) × (j < a + n) × Contains (f j) x
  of_flat a zero x c = absurd (nothing_in x c)
  of_flat a (suc n) x c =
      elim (Contains-append_cases (f a) (flat_map f (range_with_len (a + 1) n)) x c) [
        | inl here ↦ (a, omega arith, omega arith, here)
        | inr past ↦ let (j, l, h, i) = of_flat (a + 1) n x past in (j, omega arith, omega arith, i)
      ]

-- a list of single values is one of lists of one
map_is_flat : {X : Type 0} (f : ℕ → X) (js : List ℕ) → flat_map (λ j. f j ∷ []) js ≡ map f js
map_is_flat f [] = refl
map_is_flat f (j ∷ js) = ap (λ xs. f j ∷ xs) (map_is_flat f js)

module _ {X : Type 0} (f : ℕ → X) where
  pub in_map : (a n j : ℕ) → a ≤ j → j < a + n → Contains (map f (range_with_len a n)) (f j)
  in_map a n j l h =
      rw (map_is_flat f (range_with_len a n)) at
      (in_flat (λ j. f j ∷ []) a n j (f j) l h (itself_in (f j)))

  pub of_map : (a n : ℕ) (x : X) → Contains (map f (range_with_len a n)) x
      → (j : ℕ) × (a ≤ j) × (j < a + n) × (f j ≡ x)
  of_map a n x c =
      let (j, l, h, e) = of_flat (λ j. f j ∷ []) a n x (rw (map_is_flat f (range_with_len a n)) c) in
      (j, l, h, only_in (f j) x e)

module _ {X : Type 0} (R : X → X → Type 0) where
  pub AllPairs-append : (xs ys : List X) → AllPairs R xs → AllPairs R ys
      → ((x y : X) → Contains xs x → Contains ys y → R x y) → AllPairs R (xs ++ ys)
  AllPairs-append [] ys p q across = q
  AllPairs-append (x ∷ xs) ys p q across =
      let head : All (R x) xs = λ k d l. p zero (suc k) d (omega arith) (omega arith) in
      let tail : AllPairs R xs = λ i j d l h. p (suc i) (suc j) d (omega arith) (omega arith) in
      let later : All (R x) ys =
      All-weaker (Contains ys) (R x)
      (λ y c. across x y (Contains-append_left (x ∷ []) xs x (itself_in x)) c) ys
      (All-contains_itself ys) in
      AllPairs-cons R x (xs ++ ys) (All-append (R x) xs ys head later)
      (AllPairs-append xs ys tail q
      (λ v w c d. across v w (Contains-append_right (x ∷ []) xs v c) d))

  pub AllPairs-one : (x : X) → AllPairs R (x ∷ [])
  AllPairs-one x i j d l h = absurd (omega arith)

  pub AllPairs-none : AllPairs R []
  AllPairs-none i j d l h = absurd (omega arith)

  pub AllPairs-flat : (f : ℕ → List X) (a n : ℕ) → ((j : ℕ) → a ≤ j → j < a + n → AllPairs R (f j))
      → ((i j : ℕ) (x y : X) → a ≤ i → i < j → j < a + n → Contains (f i) x → Contains (f j) y
      → R x y)
      → AllPairs R (flat_map f (range_with_len a n))
  AllPairs-flat f a zero each across = AllPairs-none
  AllPairs-flat f a (suc n) each across =
      AllPairs-append (f a) (flat_map f (range_with_len (a + 1) n))
      (each a (omega arith) (omega arith))
      (AllPairs-flat f (a + 1) n (λ j l h. each j (omega arith) (omega arith))
      (λ i j x y l m h c d. across i j x y (omega arith) m (omega arith) c d))
      (λ x y c d. let (j, l, h, e) = of_flat f (a + 1) n y d in
      across a j x y (omega arith) (omega arith) (omega arith) c e)

  pub AllPairs-range : (f : ℕ → X) (a n : ℕ)
      → ((i j : ℕ) → a ≤ i → i < j → j < a + n → R (f i) (f j))
      → AllPairs R (map f (range_with_len a n))
  AllPairs-range f a n across =
      rw (map_is_flat f (range_with_len a n)) at
      (AllPairs-flat (λ j. f j ∷ []) a n (λ j l h. AllPairs-one (f j))
      (λ i j x y l m h c d.
      rw (← only_in (f i) x c, ← only_in (f j) y d) (across i j l m h)))
