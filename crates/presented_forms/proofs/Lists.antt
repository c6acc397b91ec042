-- Rising lists with the same members are equal: the first element of each is the least one.
use Rattle.std.proofs.Common.{◌≡◌, ◌⊎◌, ℕ, zero, suc, ◌-◌, ◌<◌, List, [], ◌∷◌, length, get_or, refl, sym, ap₂, subst, inl, inr, arith}
use Rattle.std.specs.Prelude.{All, Contains}
use Rattle.std.proofs.lemmas.List.Elements.{All-head, All-tail}

none : {A : Type 0} (xs : List A) (x : A) → length xs ≡ 0 → Contains xs x → ⊥
none xs x empty (k, lt, e) = omega (arith, lt, empty)

pub here : {A : Type 0} (x : A) (xs : List A) → Contains (x ∷ xs) x
here x xs = (0, omega arith, refl)

pub there : {A : Type 0} (x : A) (xs : List A) (z : A) → Contains xs z → Contains (x ∷ xs) z
there x xs z (k, lt, e) = (suc k, omega (arith, lt), e)

either : {A : Type 0} (x : A) (xs : List A) (z : A) → Contains (x ∷ xs) z → (x ≡ z) ⊎ Contains xs z
either x xs z (zero, lt, e) = inl e
either x xs z (suc k, lt, e) = inr (k, omega (arith, lt), e)

module _
    {A : Type 0} (Is : A → Type 0) (R : A → A → Type 0)
    (trans : (x y z : A) → Is x → Is y → Is z → R x y → R y z → R x z) (never : (x : A) → Is x → R x x → ⊥) where
  -- each element comes before the next one
  abbrev pub Rise : List A → Type 0
  Rise xs = (k : ℕ) (d : A) → 0 < k → k < length xs → R (get_or xs (k - 1) d) (get_or xs k d)

  rise-tail : (x : A) (xs : List A) → Rise (x ∷ xs) → Rise xs
  rise-tail x xs up zero d pos lt = absurd (omega (arith, pos))
  rise-tail x xs up (suc j) d pos lt =
      let e : suc j - 1 ≡ j = omega arith in
      let f : suc (suc j) - 1 ≡ suc j = omega arith in
      rw e (rw f at (up (suc (suc j)) d (omega arith) (omega (arith, lt))))

  -- the first one comes before all others
  first : (x : A) (xs : List A) → Rise (x ∷ xs) → Is x → All Is xs → (k : ℕ) (d : A) → k < length xs → R x (get_or xs k d)
  first x xs up one is zero d lt =
      let e : 1 - 1 ≡ 0 = omega arith in
      rw e at (up 1 d (omega arith) (omega (arith, lt)))
  first x xs up one is (suc k) d lt =
      let e : suc (suc k) - 1 ≡ suc k = omega arith in
      trans x (get_or xs k d) (get_or xs (suc k) d) one (is k d (omega (arith, lt))) (is (suc k) d lt)
      (first x xs up one is k d (omega (arith, lt)))
      (rw e at (up (suc (suc k)) d (omega arith) (omega (arith, lt))))

  before : (x : A) (xs : List A) → Rise (x ∷ xs) → Is x → All Is xs → (z : A) → Contains xs z → R x z
  before x xs up one is z (k, lt, e) = subst (λ t. R x t) e (first x xs up one is k z lt)

  heads : (x : A) (xs : List A) (y : A) (ys : List A) → Is x → All Is xs → Is y → All Is ys
      → Rise (x ∷ xs) → Rise (y ∷ ys) → Contains (y ∷ ys) x → Contains (x ∷ xs) y → x ≡ y
  heads x xs y ys one is two them up vp x_in y_in = elim (either y ys x x_in) [
    | inl e ↦ sym e
    | inr far ↦
        elim (either x xs y y_in) [
          | inl e ↦ e
          | inr also ↦
              absurd (never x one (trans x y x one two one (before x xs up one is y also) (before y ys vp two them x far)))
        ]
  ]

  -- a member of the one tail is a member of the other
  tails : (x : A) (xs ys : List A) → Is x → All Is xs → Rise (x ∷ xs) → (z : A) → Contains xs z
      → Contains (x ∷ ys) z → Contains ys z
  tails x xs ys one is up z z_in both = elim (either x ys z both) [
    | inl e ↦ absurd (never x one (subst (λ t. R x t) (sym e) (before x xs up one is z z_in)))
    | inr far ↦ far
  ]

  pub same : (xs ys : List A) → All Is xs → All Is ys → Rise xs → Rise ys
      → ((z : A) → Contains xs z → Contains ys z) → ((z : A) → Contains ys z → Contains xs z)
      → xs ≡ ys
  same [] [] is them up vp to back = refl
  same [] (y ∷ ys) is them up vp to back = absurd (none [] y refl (back y (here y ys)))
  same (x ∷ xs) [] is them up vp to back = absurd (none [] x refl (to x (here x xs)))
  same (x ∷ xs) (y ∷ ys) is them up vp to back =
      let one = All-head Is x xs is in
      let is_ = All-tail Is x xs is in
      let two = All-head Is y ys them in
      let them_ = All-tail Is y ys them in
      let e : x ≡ y = heads x xs y ys one is_ two them_ up vp (to x (here x xs)) (back y (here y ys)) in
      ap₂ (λ a l. a ∷ l) e
      (same xs ys is_ them_ (rise-tail x xs up) (rise-tail y ys vp)
      (λ z at. tails x xs ys one is_ up z at (subst (λ t. Contains (t ∷ ys) z) (sym e) (to z (there x xs z at))))
      (λ z at. tails y ys xs two them_ vp z at (subst (λ t. Contains (t ∷ xs) z) e (back z (there y ys z at)))))
