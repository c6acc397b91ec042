-- What the images of the first elements force, and when no isomorphism has them.
use Rattle.std.proofs.Common.{◌≡◌, ◌≢◌, ◌∙◌, ℕ, ◌+◌, ◌<◌, List, [], ◌∷◌, ◌++◌, length, get_or, set, eqb, not, true, refl, sym, ap, ap₂, subst, inl, inr, arith}
use Rattle.std.specs.Prelude.{slice_index, Option, Some, None}
use Rattle.std.proofs.lemmas.Bool.{cases_eq, eq-eqb}
use Rattle.std.proofs.lemmas.List.{length_push, get_or_push, get_or_append_left, length-set, get_or-set_same, get_or-set_other}
use Rattle.misere_theory.specs.Quotients.{Claim, Monoid}
use Rattle.isomorphisms.specs.Isomorphism.{IsMap}
use Rattle.isomorphisms.specs.Profiles.{AreKept}
use Rattle.isomorphisms.specs.Images.{Takes, NoneTakes, MustTake, AreForced, IsForced, IsNextImage, IsLeftOut}
use Rattle.isomorphisms.specs.declared.searching.NextImage.{NextImage}
use Rattle.isomorphisms.specs.declared.searching.NextImage.TheVariants.{Nowhere, Only, Any}
use Rattle.isomorphisms.specs.declared.forcing.Sent.{Sent}
use Rattle.isomorphisms.proofs.MapLemmas.{map-along}

module _ (c d : Claim) (images : List ℕ) where
  pub must-identity : MustTake c d images 0 0
  must-identity f g i t = i.identity

  pub must-first : (i : ℕ) → i < length images → MustTake c d images (i + 1) (slice_index images i)
  must-first i l f g is t = t i l

  pub must-product : (x y z w : ℕ) → x < c.order → z < c.order → MustTake c d images x y
      → MustTake c d images z w → MustTake c d images (c.times x z) (d.times y w)
  must-product x y z w k l p q f g i t =
      i.products x z k l ∙ ap₂ d.times (p f g i t) (q f g i t)

  -- the image of the product of two elements whose images are forced
  pub product-forced : (p q : Sent) (from to : ℕ) → IsForced c d images p → IsForced c d images q
      → from ≡ c.times p.from q.from → to ≡ d.times p.to q.to → MustTake c d images from to
  product-forced p q from to k l a b f g i t =
      ap f a ∙ (must-product p.from p.to q.from q.to k.from l.from k.must l.must f g i t ∙ sym b)

  pub clashes : (x y z : ℕ) → MustTake c d images x y → MustTake c d images x z → y ≢ z
      → NoneTakes c d images
  clashes x y z p q ne f g i t = ne (sym (p f g i t) ∙ q f g i t)

  -- the whole map that is forced is the only one
  pub only-map : (map : List ℕ) → Monoid c.order c.times → length map ≡ c.order
      → ((x : ℕ) → x < c.order → MustTake c d images x (slice_index map x))
      → (IsMap c d map → ⊥) → NoneTakes c d images
  only-map map m long must none f g i t =
      none (map-along c d f g map m long (λ x l. must x l f g i t) i)

  module _ (y : ℕ) where
    takes-last : (f : ℕ → ℕ) → Takes f (images ++ y ∷ []) → f (length images + 1) ≡ y
    takes-last f t =
        t (length images) (rw (length_push images y) (omega arith))
        ∙ get_or_push images y 0 (length images) refl

    takes-front : (f : ℕ → ℕ) → Takes f (images ++ y ∷ []) → Takes f images
    takes-front f t i l =
        t i (rw (length_push images y) (omega arith))
        ∙ get_or_append_left images (y ∷ []) 0 i l

    -- an image of another colour
    pub other-colour : (col other : ℕ → ℕ) → AreKept c d col other → length images + 1 < c.order
        → col (length images + 1) ≢ other y → NoneTakes c d (images ++ y ∷ [])
    other-colour col other kept l ne f g i t =
        ne (sym (kept f g i (length images + 1) l) ∙ ap other (takes-last f t))

    -- an image other than the one that is forced
    pub other-image : (z : ℕ) → MustTake c d images (length images + 1) z → z ≢ y
        → NoneTakes c d (images ++ y ∷ [])
    other-image z must ne f g i t =
        ne (sym (must f g i (takes-front f t)) ∙ takes-last f t)

    -- y is left out
    pub none-of-left-out : (col other : ℕ → ℕ) → AreKept c d col other
        → length images + 1 < c.order → (next : NextImage) → IsNextImage c d images next
        → IsLeftOut next (col (length images + 1)) (other y) y → NoneTakes c d (images ++ y ∷ [])
    none-of-left-out col other kept l Nowhere none h f g i t = none f g i (takes-front f t)
    none-of-left-out col other kept l (Only z) must (inl ne) f g i t =
        other-colour col other kept l ne f g i t
    none-of-left-out col other kept l (Only z) must (inr ne) f g i t = other-image z must ne f g i t
    none-of-left-out col other kept l Any known ne f g i t = other-colour col other kept l ne f g i t

  takes-longer : (f : ℕ → ℕ) → Takes f images → Takes f (images ++ f (length images + 1) ∷ [])
  takes-longer f t i l = elim (cases_eq i (length images)) [
    | inl same ↦
        ap (λ j. f (j + 1)) same
        ∙ sym (get_or_push images (f (length images + 1)) 0 i (sym same))
    | inr other ↦
        let k : i < length images =
        let e = length_push images (f (length images + 1)) in omega (arith, other, l, e) in
        t i k ∙ sym (get_or_append_left images (f (length images + 1) ∷ []) 0 i k)
  ]

  -- no image is left for the next first element
  pub none-left : length images + 1 < c.order
      → ((y : ℕ) → y < d.order → NoneTakes c d (images ++ y ∷ [])) → NoneTakes c d images
  none-left l none f g i t =
      none (f (length images + 1)) (i.onto (length images + 1) l) f g i (takes-longer f t)

-- one image more is known
pub forced-set : (c d : Claim) (images : List ℕ) (map new : List (Option ℕ)) (from to : ℕ)
    → AreForced c d images map → from < c.order → MustTake c d images from to
    → new ≡ set map from (Some to) → AreForced c d images new
forced-set c d images map new from to known l must is = record {
  long = ap length is ∙ (length-set map from (Some to) ∙ known.long);
  must = λ x y lt e.
      let at : get_or (set map from (Some to)) x None ≡ Some y =
      subst (λ m. get_or m x None ≡ Some y) is e in
      elim (cases_eq x from) [
        | inl same ↦
            let here : get_or (set map from (Some to)) x None ≡ Some to =
            ap (λ k. get_or (set map from (Some to)) k None) same
            ∙ get_or-set_same map from (Some to) None (let long = known.long in omega arith) in
            let value : to ≡ y = cc in
            subst (λ v. MustTake c d images x v) value
            (subst (λ k. MustTake c d images k to) (sym same) must)
        | inr other ↦
            known.must x y lt (sym (get_or-set_other map from x (Some to) None other) ∙ at)
      ];
}

-- nothing is known at first but the identity's image
pub forced-first : (c d : Claim) (images : List ℕ) (map new : List (Option ℕ)) → 0 < c.order
    → length map ≡ c.order → ((k : ℕ) → k < c.order → get_or map k None ≡ None)
    → new ≡ set map 0 (Some 0) → AreForced c d images new
forced-first c d images map new some long nothing is =
    forced-set c d images map new 0 0
    (record {
      long = long;
      must = λ x y l e.
          let no : None ≡ Some y = sym (nothing x l) ∙ e in
          absurd (cc);
    })
    some (must-identity c d images) is

pub not-equal : (a b : ℕ) → not (eqb a b) ≡ true → a ≢ b
not-equal a b t e =
    let no : not true ≡ true = subst (λ v. not v ≡ true) (eq-eqb a b e) t in
    cc

-- another image than the one that is known
pub forced-clash : (c d : Claim) (images : List ℕ) (map : List (Option ℕ)) (from to known : ℕ)
    → AreForced c d images map → from < c.order → MustTake c d images from to
    → get_or map from None ≡ Some known → known ≢ to → NoneTakes c d images
forced-clash c d images map from to known are l must e ne =
    clashes c d images from known to (are.must from known l e) must ne

-- a list of values that grows by one
pub values-pushed : (P : ℕ → ℕ → Type 0) (xs new : List ℕ) (n y : ℕ) → length xs ≡ n
    → ((k : ℕ) → k < n → P k (get_or xs k 0)) → P n y → new ≡ xs ++ y ∷ []
    → (k : ℕ) → k < n + 1 → P k (get_or new k 0)
values-pushed P xs new n y long so_far here is k l =
    subst (λ zs. P k (get_or zs k 0)) (sym is) (elim (cases_eq k n) [
      | inl same ↦
          subst (λ j. P j (get_or (xs ++ y ∷ []) j 0)) (sym same)
          (subst (λ v. P n v) (sym (get_or_push xs y 0 n long)) here)
      | inr other ↦
          let lt : k < n = omega (arith, other, l) in
          subst (λ v. P k v) (sym (get_or_append_left xs (y ∷ []) 0 k (omega (arith, long))))
          (so_far k lt)
    ])
