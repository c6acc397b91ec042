-- A list that is walked from its front to its end, and what holds of each item so far.
use Rattle.std.proofs.Common.{◌≡◌, List, [], ◌∷◌, ◌++◌, inl, inr, sym, ◌∙◌, ap, subst, append_assoc}
use Rattle.std.specs.List.{Contains}
use Rattle.std.proofs.lemmas.List.{append-nil}
use Rattle.std.proofs.lemmas.List.Elements.{Contains-append_left, Contains-append_right, Contains-append_cases}
use Rattle.misere_theory.proofs.ListLaws.{nothing_in, only_in, itself_in}

pub record IsWalked {A : Type 0} (P : A → Type 0) (xs ys zs : List A) : Type 0 where
  pub whole : xs ++ ys ≡ zs
  pub all : (x : A) → Contains xs x → P x

pub from_start : {A : Type 0} (P : A → Type 0) (ys zs : List A) → ys ≡ zs → IsWalked P [] ys zs
from_start P ys zs e = record { whole = e; all = λ x h. absurd (nothing_in x h) }

pub item : {A : Type 0} (P : A → Type 0) (xs ys zs : List A) (x : A) (rest : List A)
    → IsWalked P xs ys zs → ys ≡ x ∷ rest → Contains zs x
item P xs ys zs x rest w first =
    subst (λ v. Contains v x) (ap (λ v. xs ++ v) (sym first) ∙ w.whole)
    (Contains-append_right xs (x ∷ rest) x (Contains-append_left (x ∷ []) rest x (itself_in x)))

pub weaker : {A : Type 0} (P Q : A → Type 0) (xs ys zs : List A) → ((x : A) → P x → Q x)
    → IsWalked P xs ys zs → IsWalked Q xs ys zs
weaker P Q xs ys zs f w = record { whole = w.whole; all = λ x h. f x (w.all x h) }

pub one_more : {A : Type 0} (P : A → Type 0) (xs ys zs : List A) (x : A) (rest : List A)
    → IsWalked P xs ys zs → ys ≡ x ∷ rest → P x → IsWalked P (xs ++ x ∷ []) rest zs
one_more P xs ys zs x rest w first h = record {
  whole = append_assoc xs (x ∷ []) rest ∙ (ap (λ v. xs ++ v) (sym first) ∙ w.whole);
  all = λ y i. elim (Contains-append_cases xs (x ∷ []) y i) [
    | inl a ↦ w.all y a
    | inr b ↦ subst P (only_in x y b) h
  ];
}

pub ended : {A : Type 0} (P : A → Type 0) (xs ys zs : List A) → IsWalked P xs ys zs → ys ≡ []
    → (x : A) → Contains zs x → P x
ended P xs ys zs w end x h =
    w.all x (subst (λ v. Contains v x) (sym (sym (append-nil xs) ∙ ap (λ v. xs ++ v) (sym end) ∙ w.whole)) h)
