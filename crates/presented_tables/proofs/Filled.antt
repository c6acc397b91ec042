-- Rows that are filled entry by entry.
use Rattle.std.proofs.Common.{◌≡◌, ℕ, zero, suc, ◌+◌, ◌*◌, ◌/◌, ◌%◌, ◌<◌, List, [], ◌∷◌, ◌++◌, length, get_or, refl, sym, ap, ◌∙◌, subst, arith, inl, inr}
use Rattle.std.specs.Prelude.{slice_index_or}
use Rattle.std.proofs.lemmas.List.{get_or_append_left}
use Rattle.std.proofs.Math.Seq.{get_or-append_seam}
use Rattle.std.proofs.Math.Nat.{add-mul-mod_self_right, add-mul-div_right, div-eq_of_lt, mod-eq_of_lt, mod-lt, div-lt_iff_lt-mul}
use Rattle.presented_tables.specs.Rows.{AreRows}
pub use Rattle.presented_tables.specs.Rows.{AreFilled}
use Rattle.presented_tables.proofs.Below.{last_or_before}

one-filled : {X : Type 0} (P : ℕ → ℕ → X → Type 0) (width k : ℕ) (d v : X) (xs ys : List X)
    → AreFilled P width k d xs → ys ≡ xs ++ v ∷ [] → P (k / width) (k % width) v
    → AreFilled P width (k + 1) d ys
one-filled P width k d v xs ys f e p = record {
  long = ap length e ∙ longer xs v ∙ ap (λ n. n + 1) f.long;
  entries =
      λ j lt. elim (last_or_before j k lt) [
        | inl less ↦
            subst (P (j / width) (j % width))
            (sym (ap (λ l. get_or l j d) e ∙ get_or_append_left xs (v ∷ []) d j (omega (arith, less, f.long))))
            (f.entries j less)
        | inr is ↦
            subst (λ n. P (n / width) (n % width) (get_or ys n d)) (sym is)
            (subst (P (k / width) (k % width))
            (sym (ap (λ l. get_or l k d) e ∙ ap (λ n. get_or (xs ++ v ∷ []) n d) (sym f.long)
            ∙ get_or-append_seam xs v [] d)) p)
      ];
}
  where
    longer : {X : Type 0} (xs : List X) (v : X) → length (xs ++ v ∷ []) ≡ length xs + 1
    longer [] v = refl
    longer (x ∷ xs) v = let h = longer xs v in omega (arith, h)

-- the same where the row and the place have names
pub one-more : {X : Type 0} (P : ℕ → ℕ → X → Type 0) (width k : ℕ) (d v : X) (xs ys : List X) (x y : ℕ)
    → AreFilled P width k d xs → ys ≡ xs ++ v ∷ [] → x ≡ k / width → y ≡ k % width → P x y v
    → AreFilled P width (k + 1) d ys
one-more P width k d v xs ys x y f e row place p =
    one-filled P width k d v xs ys f e
    (subst (λ b. P (k / width) b v) place (subst (λ a. P a y v) row p))

pub some-wide : (k count width : ℕ) → k < count * width → 0 < width
some-wide k count zero lt = absurd (omega (arith, lt))
some-wide k count (suc width) lt = omega arith

pub row-in : (k count width : ℕ) → k < count * width → k / width < count
row-in k count width lt = (div-lt_iff_lt-mul (some-wide k count width lt)).1 lt

pub place-in-row : (k count width : ℕ) → k < count * width → k % width < width
place-in-row k count width lt = mod-lt k (some-wide k count width lt)

inside : (count width x y : ℕ) → x < count → y < width → x * width + y < count * width
inside zero width x y lx ly = absurd (omega (arith, lx))
inside (suc count) width zero y lx ly = omega (arith, ly)
inside (suc count) width (suc x) y lx ly =
    let h = inside count width x y (omega (arith, lx)) ly in omega (arith, h)

nothing-more : (a x : ℕ) → a ≡ 0 → a + x ≡ x
nothing-more a x is = omega (arith, is)

pub row-of : (width x y : ℕ) → y < width → (x * width + y) / width ≡ x
row-of width x y lt =
    ap (λ n. n / width) (swapped (x * width) y)
    ∙ add-mul-div_right y x (omega (arith, lt)) ∙ nothing-more (y / width) x (div-eq_of_lt lt)
  where
    swapped : (a b : ℕ) → a + b ≡ b + a
    swapped a b = omega arith

pub place-of : (width x y : ℕ) → y < width → (x * width + y) % width ≡ y
place-of width x y lt =
    ap (λ n. n % width) (swapped (x * width) y) ∙ add-mul-mod_self_right y x width ∙ mod-eq_of_lt lt
  where
    swapped : (a b : ℕ) → a + b ≡ b + a
    swapped a b = omega arith

pub all-filled : {X : Type 0} (P : ℕ → ℕ → X → Type 0) (count width k : ℕ) (d : X) (xs : List X)
    → k ≡ count * width → AreFilled P width k d xs → AreRows P count width d xs
all-filled P count width k d xs e f = record {
  long = f.long ∙ e;
  entries =
      λ x y lx ly.
      let h = f.entries (x * width + y) (subst (λ n. x * width + y < n) (sym e) (inside count width x y lx ly)) in
      subst (λ b. P x b (get_or xs (x * width + y) d)) (place-of width x y ly)
      (subst (λ a. P a ((x * width + y) % width) (get_or xs (x * width + y) d)) (row-of width x y ly) h);
}

-- ---- row g, entry by entry

pub one-more-in : {X : Type 0} (P : ℕ → ℕ → X → Type 0) (width g x : ℕ) (d v : X) (xs ys : List X)
    → x < width → AreFilled P width (g * width + x) d xs → ys ≡ xs ++ v ∷ [] → P g x v
    → AreFilled P width (g * width + (x + 1)) d ys
one-more-in P width g x d v xs ys lt f e p =
    subst (λ k. AreFilled P width k d ys) (later (g * width) x)
    (one-more P width (g * width + x) d v xs ys g x f e (sym (row-of width g x lt)) (sym (place-of width g x lt)) p)
  where
    later : (a b : ℕ) → a + b + 1 ≡ a + (b + 1)
    later a b = omega arith

-- ---- an entry that is looked up

pub entry-at : {X : Type 0} (P : ℕ → ℕ → X → Type 0) (count width w x y : ℕ) (d v : X) (xs ys : List X)
    → AreRows P count width d xs → w ≡ width → ys ≡ xs → x < count → y < width
    → v ≡ slice_index_or ys (x * w + y) d → P x y v
entry-at P count width w x y d v xs ys r wide same lx ly is =
    subst (P x y)
    (sym (is ∙ ap (λ n. slice_index_or ys (x * n + y) d) wide
    ∙ ap (λ l. slice_index_or l (x * width + y) d) same))
    (r.entries x y lx ly)
