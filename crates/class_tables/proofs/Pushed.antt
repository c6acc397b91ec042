-- A list that is filled item by item.
use Rattle.std.proofs.Common.{◌≡◌, ◌≢◌, ℕ, zero, suc, ◌+◌, ◌<◌, List, [], ◌∷◌, ◌++◌, length, get_or, refl, sym, ap, ◌∙◌, subst, arith, inl, inr}
use Rattle.std.specs.Prelude.{slice_index_or, slice_set}
use Rattle.std.proofs.lemmas.List.{get_or_append_left, get_or-set_other, get_or-set_same}
use Rattle.std.proofs.Math.Seq.{get_or-append_seam}
use Rattle.presented_tables.proofs.Below.{last_or_before}

-- the same of a list of which one item is set
pub set-below : {X : Type 0} (P : ℕ → X → Type 0) (xs : List X) (i : ℕ) (v d : X) → i < length xs
    → ((k : ℕ) → k < i → P k (slice_index_or xs k d)) → P i v
    → (k : ℕ) → k < i + 1 → P k (slice_index_or (slice_set xs i v) k d)
set-below P xs i v d lt before at k h = elim (last_or_before k i h) [
  | inl less ↦
      let other : k ≢ i = λ e. omega (arith, e, less) in
      subst (P k) (sym (get_or-set_other xs i k v d other)) (before k less)
  | inr is ↦
      subst (λ j. P j (get_or (slice_set xs i v) j d)) (sym is) (subst (P i) (sym (get_or-set_same xs i v d lt)) at)
]

-- the items so far have the property
pub record AreSoFar {X : Type 0} (P : ℕ → X → Type 0) (k : ℕ) (d : X) (xs : List X) : Type 0 where
  pub long : length xs ≡ k
  pub items : (j : ℕ) → j < k → P j (slice_index_or xs j d)

pub one-pushed : {X : Type 0} (P : ℕ → X → Type 0) (k : ℕ) (d v : X) (xs ys : List X)
    → AreSoFar P k d xs → ys ≡ xs ++ v ∷ [] → P k v → AreSoFar P (k + 1) d ys
one-pushed P k d v xs ys f e p = record {
  long = ap length e ∙ longer xs v ∙ ap (λ n. n + 1) f.long;
  items =
      λ j lt. elim (last_or_before j k lt) [
        | inl less ↦
            subst (P j) (sym (ap (λ l. get_or l j d) e ∙ get_or_append_left xs (v ∷ []) d j (omega (arith, less, f.long))))
            (f.items j less)
        | inr is ↦
            subst (λ n. P n (get_or ys n d)) (sym is)
            (subst (P k) (sym (ap (λ l. get_or l k d) e ∙ ap (λ n. get_or (xs ++ v ∷ []) n d) (sym f.long)
            ∙ get_or-append_seam xs v [] d)) p)
      ];
}
  where
    longer : {X : Type 0} (xs : List X) (v : X) → length (xs ++ v ∷ []) ≡ length xs + 1
    longer [] v = refl
    longer (x ∷ xs) v = let h = longer xs v in omega (arith, h)
