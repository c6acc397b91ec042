-- A position less one heap, in any order; so a move of a heap leads to one position.
-- By induction on how one order is made from the other.
use Rattle.std.proofs.Common.{◌≡◌, ℕ, ◌⊎◌, List, [], ◌∷◌, ◌++◌, refl, inl, inr, IsPermutation}
use native.Mathlib.Decide.{ℕ_discrete}
use Rattle.misere_theory.specs.Games.{HeapMove}
use Rattle.misere_theory.proofs.Shuffles.{Shuffled, back, behind, from_permutation, to_permutation}
use Rattle.misere_theory.proofs.Shuffles.Shuffled.{Same, Under, Flip, Then}

-- R is X less one n
abbrev pub Less : ℕ → List ℕ → List ℕ → Type 0
Less n [] R = ⊥
Less n (b ∷ X) R = ((b ≡ n) × (R ≡ X)) ⊎ ((S : List ℕ) × Less n X S × (R ≡ b ∷ S))

pub less_shuffled : (n : ℕ) (X R : List ℕ) → Less n X R → Shuffled X (n ∷ R)
less_shuffled n [] R l = absurd l
less_shuffled n (b ∷ X) R l = elim l [
  | inl (e, f) ↦ rw (e, f) Same
  | inr (S, i, f) ↦ rw f (Then (Under (less_shuffled n X S i)) Flip)
]

pub less_in_order : {X Y : List ℕ} → Shuffled X Y → (n : ℕ) (R : List ℕ) → Less n X R
    → (S : List ℕ) × Less n Y S × Shuffled R S
less_in_order Same n R l = (R, l, Same)
less_in_order (Under {n = b} {X = X} {Y = Y} s) n R l = elim l [
  | inl (e, f) ↦ (Y, inl (e, refl), rw f s)
  | inr (S, i, f) ↦ let (T, j, t) = less_in_order s n S i in
      (b ∷ T, inr (T, j, refl), rw f (Under t))
]
less_in_order (Flip {a = a} {b = b} {X = X}) n R l = elim l [
  | inl (e, f) ↦ (b ∷ X, inr (X, inl (e, refl), refl), rw f Same)
  | inr (S, i, f) ↦ elim i [
    | inl (e, g) ↦ (a ∷ X, inl (e, refl), rw (f, g) Same)
    | inr (T, j, g) ↦ (b ∷ a ∷ T, inr (a ∷ T, inr (T, j, refl), refl), rw (f, g) Flip)
  ]
]
less_in_order (Then s t) n R l =
    let (S, i, u) = less_in_order s n R l in
    let (T, j, v) = less_in_order t n S i in
    (T, j, Then u v)

pub less_once : (n : ℕ) (X R S : List ℕ) → Less n X R → Less n X S → Shuffled R S
less_once n [] R S l k = absurd l
less_once n (b ∷ X) R S l k = elim l [
  | inl (e, f) ↦ elim k [
    | inl (_, g) ↦ rw (f, g) Same
    | inr (T, i, g) ↦ rw (f, g, e) (less_shuffled n X T i)
  ]
  | inr (T, i, f) ↦ elim k [
    | inl (e, g) ↦ rw (f, g, e) (back (less_shuffled n X T i))
    | inr (U, j, g) ↦ rw (f, g) (Under (less_once n X T U i j))
  ]
]

pub less_or_none : (n : ℕ) (X : List ℕ) → ((R : List ℕ) × Less n X R)
    ⊎ ((R : List ℕ) → Less n X R → ⊥)
less_or_none n [] = inr (λ R l. l)
less_or_none n (b ∷ X) = elim (ℕ_discrete b n) [
  | yes e ↦ inl (X, inl (e, refl))
  | no f ↦ elim (less_or_none n X) [
    | inl (R, l) ↦ inl (b ∷ R, inr (R, l, refl))
    | inr none ↦ inr (λ R l. elim l [ inl (e, _) ↦ f e | inr (S, i, _) ↦ none S i ])
  ]
]

-- what is left of X beside a heap n is one position, in any order
pub rest_once : (n : ℕ) (X R S : List ℕ) → Shuffled X (n ∷ R) → Shuffled X (n ∷ S) → Shuffled R S
rest_once n X R S s t =
    let (U, i, u) = less_in_order (Then (back s) t) n R (inl (refl, refl)) in
    Then u (less_once n (n ∷ S) U S i (inl (refl, refl)))

pub moved_once : {code X : List ℕ} {n : ℕ} {H Y Z : List ℕ} → HeapMove code X n H Y
    → HeapMove code X n H Z → Shuffled Y Z
moved_once {X = X} {n = n} {H = H} {Y = Y} {Z = Z} a b =
    let s = rest_once n X a.others b.others (from_permutation X (n ∷ a.others) a.before)
    (from_permutation X (n ∷ b.others) b.before) in
    Then (from_permutation Y (H ++ a.others) a.after)
    (Then (behind H a.others b.others s) (back (from_permutation Z (H ++ b.others) b.after)))

pub moved_once_permuted : (code X : List ℕ) (n : ℕ) (H Y Z : List ℕ) → HeapMove code X n H Y
    → HeapMove code X n H Z → IsPermutation Y Z
moved_once_permuted code X n H Y Z a b = to_permutation (moved_once a b)
