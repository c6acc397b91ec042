-- Elements of lists.
use Rattle.std.proofs.Common.{◌≡◌, ℕ, zero, suc, ◌<◌, Bool, true, false, List, [], ◌∷◌, length, get_or, set, refl, sym, ap, ◌∙◌, subst, arith, ◌||◌, All, AllPairs}
use Rattle.std.specs.List.{list_any}
use Rattle.std.proofs.lemmas.Bool.{false_from_ne_true, true≢false}
use Rattle.std.proofs.lemmas.List.{get_or_default, length-set}
use Rattle.std.proofs.lemmas.List.Elements.{All-cons, All-nil}
use Rattle.std.proofs.lemmas.List.Folds.{Any-from_list_any, list_any_at}

pub by_case : (P : Bool → Type 0) (b : Bool) → (b ≡ true → P true) → (b ≡ false → P false) → P b
by_case P true f g = f refl
by_case P false f g = g refl

pub not_both : {b : Bool} → b ≡ true → b ≡ false → ⊥
not_both e f = true≢false (sym e ∙ f)

module _ {A : Type 0} where
  pub All-one : (P : A → Type 0) (x : A) → P x → All P (x ∷ [])
  All-one P x h = All-cons P x [] h (All-nil P)

  pub find_any : (p : A → Bool) (xs : List A) (d : A) → list_any p xs ≡ true
      → (k : ℕ) × (k < length xs) × (p (get_or xs k d) ≡ true)
  find_any p xs d e = let (k, x, l, is, q) = Any-from_list_any p xs e in
      (k, l, ap p (get_or_default xs k d x l ∙ is) ∙ q)

  pub none_all : (p : A → Bool) (xs : List A) → list_any p xs ≡ false → All (λ x. p x ≡ false) xs
  none_all p xs e k d l = false_from_ne_true _ (λ t. not_both (list_any_at p xs k d l t) e)

  -- a written element that a test doesn't tell from the old one
  pub any_set : (p : A → Bool) (xs : List A) (i : ℕ) (v d : A) → p v ≡ p (get_or xs i d)
      → list_any p (set xs i v) ≡ list_any p xs
  any_set p [] i v d e = refl
  any_set p (y ∷ ys) zero v d e = ap (λ b. b || list_any p ys) e
  any_set p (y ∷ ys) (suc i) v d e = ap (λ b. p y || b) (any_set p ys i v d e)

  -- what a written element keeps
  pub same_after_set : {B : Type 0} (f : A → B) (xs : List A) (i : ℕ) (v d : A)
      → f v ≡ f (get_or xs i d) → (k : ℕ) (e : A) → f (get_or (set xs i v) k e) ≡ f (get_or xs k e)
  same_after_set f [] i v d e k c = refl
  same_after_set f (y ∷ ys) zero v d e zero c = e
  same_after_set f (y ∷ ys) zero v d e (suc k) c = refl
  same_after_set f (y ∷ ys) (suc i) v d e zero c = refl
  same_after_set f (y ∷ ys) (suc i) v d e (suc k) c = same_after_set f ys i v d e k c

  pub AllPairs-set : {B : Type 0} (f : A → B) (Q : B → B → Type 0) (xs : List A) (i : ℕ) (v d : A)
      → f v ≡ f (get_or xs i d) → AllPairs (λ x y. Q (f x) (f y)) xs
      → AllPairs (λ x y. Q (f x) (f y)) (set xs i v)
  AllPairs-set f Q xs i v d e all j k c p q =
      let len = length-set xs i v in
      rw (same_after_set f xs i v d e j c, same_after_set f xs i v d e k c)
      (all j k c p (omega arith))
