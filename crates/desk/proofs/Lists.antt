-- Lists with one item changed.
use Rattle.std.proofs.Common.{◌≡◌, ◌≢◌, ◌⊎◌, ℕ, ◌+◌, ◌<◌, ◌==◌, false, if◌then◌else◌, List, length, Option, Some, None, refl, sym, ◌∙◌, ap, inl, inr, arith, get_or, set, ◌++◌, ◌∷◌, [], length-append, Result, Ok, Err, OnErr, zero, suc, replicate}
use native.Mathlib.Decide.{dec_lt}
use Rattle.std.proofs.lemmas.Bool.{eq-eqb}
use Rattle.std.proofs.lemmas.Bool.Decides.{eqb_tells}
use Rattle.std.proofs.lemmas.List.{get_or-set_same, get_or-set_other, get_or_past, get_or_append_left}
use Rattle.std.proofs.Math.Seq.{get_or-append_seam}
use Rattle.desk.specs.Desks.{slot_at, IsWith}

pub eqb_no : (i j : ℕ) → (i ≡ j → ⊥) → (i == j) ≡ false
eqb_no i j differ = elim (eqb_tells i j) [ inl same ↦ absurd (differ same.1) | inr other ↦ other.0 ]

-- a list is another with one item changed
pub is_with : {X : Type 0} (xs ys : List (Option X)) (i : ℕ) (x : Option X) → get_or ys i None ≡ x
    → ((j : ℕ) → i ≢ j → get_or ys j None ≡ get_or xs j None) → IsWith xs i x ys
is_with xs ys i x here others = λ j. elim (eqb_tells i j) [
  | inl (e, same) ↦ ap (λ k. get_or ys k None) (sym same) ∙ here
      ∙ sym (ap (λ b. if b then x else get_or xs j None) e)
  | inr (e, apart) ↦ others j apart ∙ sym (ap (λ b. if b then x else get_or xs j None) e)
]

-- an item of a list with one changed: the new one, or another's
pub with_item : {X : Type 0} (xs ys : List (Option X)) (i : ℕ) (x : Option X) → IsWith xs i x ys
    → (j : ℕ) → ((i ≡ j) × (get_or ys j None ≡ x))
    ⊎ ((i ≢ j) × (get_or ys j None ≡ get_or xs j None))
with_item xs ys i x w j = elim (eqb_tells i j) [
  | inl (e, same) ↦ inl (same, w j ∙ ap (λ b. if b then x else get_or xs j None) e)
  | inr (e, apart) ↦ inr (apart, w j ∙ ap (λ b. if b then x else get_or xs j None) e)
]

pub with_here : {X : Type 0} (xs ys : List (Option X)) (i : ℕ) (x : Option X) → IsWith xs i x ys
    → get_or ys i None ≡ x
with_here xs ys i x w = w i ∙ ap (λ b. if b then x else get_or xs i None) (eq-eqb i i refl)

pub with_other : {X : Type 0} (xs ys : List (Option X)) (i j : ℕ) (x : Option X) → IsWith xs i x ys
    → i ≢ j → get_or ys j None ≡ get_or xs j None
with_other xs ys i j x w apart =
    w j ∙ ap (λ b. if b then x else get_or xs j None) (eqb_no i j apart)

pub with_set : {X : Type 0} (xs : List (Option X)) (i : ℕ) (x : Option X) → i < length xs
    → IsWith xs i x (set xs i x)
with_set xs i x below = is_with xs (set xs i x) i x (get_or-set_same xs i x None below)
    (λ j apart. get_or-set_other xs i j x None (λ e. apart (sym e)))

push_other : {X : Type 0} (xs : List (Option X)) (x : Option X) (i : ℕ) → i ≢ length xs
    → get_or (xs ++ x ∷ []) i None ≡ get_or xs i None
push_other xs x i apart = elim (dec_lt i (length xs)) [
  | yes below ↦ get_or_append_left xs (x ∷ []) None i below
  | no past ↦
      let more : length (xs ++ x ∷ []) ≡ length xs + 1 = length-append xs (x ∷ []) in
      get_or_past (xs ++ x ∷ []) i None (omega arith) ∙ sym (get_or_past xs i None (omega arith))
]

pub push_with : {X : Type 0} (xs ys : List (Option X)) (k : ℕ) (x : Option X) → k ≡ length xs
    → ys ≡ xs ++ x ∷ [] → IsWith xs k x ys
push_with xs ys k x at is = is_with xs ys k x
    (ap (λ l. get_or l k None) is
    ∙ (ap (λ n. get_or (xs ++ x ∷ []) n None) at ∙ get_or-append_seam xs x [] None))
    (λ i apart. ap (λ l. get_or l i None) is ∙ push_other xs x i (λ h. apart (at ∙ sym h)))

-- no item of a list of nothing is something
pub none_at_all : (n i : ℕ) → slot_at (replicate n None) i ≡ None
none_at_all zero i = refl
none_at_all (suc n) zero = refl
none_at_all (suc n) (suc i) = none_at_all n i

pub on_err : {X E : Type 0} (P : Type 0) (r : Result X E) → P → OnErr r P
on_err P (Ok x) p = tt
on_err P (Err e) p = p

pub some_within : {X : Type 0} (xs : List (Option X)) (i : ℕ) (x : X) → get_or xs i None ≡ Some x
    → i < length xs
some_within xs i x e = elim (dec_lt i (length xs)) [
  | yes within ↦ within
  | no past ↦
      let none : get_or xs i None ≡ None = get_or_past xs i None (omega arith) in absurd (cc)
]
