-- What makes a list of images an isomorphism, and what every isomorphism is.
use Rattle.std.proofs.Common.{◌≡◌, ◌∙◌, ℕ, ◌<◌, List, length, sym, ap, ap₂, subst, arith}
use Rattle.std.specs.Prelude.{slice_index}
use native.Mathlib.Decide.{dec_lt}
use Rattle.misere_theory.specs.Quotients.{Claim, Monoid}
use Rattle.isomorphisms.specs.Isomorphism.{IsIsomorphism, IsMap}
use Rattle.isomorphisms.specs.Maps.{AreHit, AreNew, KeepsPortion, KeepsProducts}

-- where the image y comes from, or 0
abbrev from_of : (map : List ℕ) (m : ℕ) → AreHit map m → ℕ → ℕ
from_of map m hits y = elim (dec_lt y m) [ yes l ↦ (hits y l).0 | no _ ↦ 0 ]

from-is : (map : List ℕ) (m : ℕ) (hits : AreHit map m) (y : ℕ) → y < m
    → (from_of map m hits y < length map) × (slice_index map (from_of map m hits y) ≡ y)
from-is map m hits y l =
    elim (dec_lt y m) as
    (λ s. (elim s [ yes k ↦ (hits y k).0 | no _ ↦ 0 ] < length map)
    × (slice_index map (elim s [ yes k ↦ (hits y k).0 | no _ ↦ 0 ]) ≡ y)) [
      | yes k ↦ ((hits y k).1, (hits y k).2)
      | no f ↦ absurd (f l)
    ]

new-once : (map : List ℕ) → AreNew map → (x y : ℕ) → x < length map → y < length map
    → slice_index map x ≡ slice_index map y → x ≡ y
new-once map new x y k l e = elim (dec_lt x y) [
  | yes p ↦ absurd (new y l x p e)
  | no p ↦ elim (dec_lt y x) [
    | yes q ↦ absurd (new x k y q (sym e))
    | no q ↦ omega arith
  ]
]

pub map-from : (c d : Claim) (map : List ℕ) → length map ≡ c.order
    → ((x : ℕ) → x < c.order → slice_index map x < d.order) → slice_index map 0 ≡ 0
    → KeepsPortion c d map → ((x : ℕ) → x < c.order → KeepsProducts c d map x)
    → AreHit map d.order → AreNew map → IsMap c d map
map-from c d map long within zero_is portion products hits new = record {
  long = long;
  back = from_of map d.order hits;
  is = record {
    onto = within;
    back = λ y l. subst (λ n. from_of map d.order hits y < n) long (from-is map d.order hits y l).0;
    there_and_back = λ x l.
        let at = from-is map d.order hits (slice_index map x) (within x l) in
        new-once map new (from_of map d.order hits (slice_index map x)) x at.0
        (omega (arith, long, l)) at.1;
    back_and_there = λ y l. (from-is map d.order hits y l).1;
    identity = zero_is;
    products = λ x y k l. products x k y l;
    portion = portion;
  };
}

pub map-hits : (c d : Claim) (map : List ℕ) → IsMap c d map → AreHit map d.order
map-hits c d map is y l =
    (is.back y, subst (λ n. is.back y < n) (sym is.long) (is.is.back y l), is.is.back_and_there y l)

pub map-new : (c d : Claim) (map : List ℕ) → IsMap c d map → AreNew map
map-new c d map is x l z lt e =
    let k : x < c.order = subst (λ n. x < n) is.long l in
    let same : z ≡ x =
    sym (is.is.there_and_back z (omega arith)) ∙ (ap is.back e ∙ is.is.there_and_back x k) in
    omega arith

-- a list of the images that an isomorphism gives is one
pub map-along : (c d : Claim) (f g : ℕ → ℕ) (map : List ℕ) → Monoid c.order c.times
    → length map ≡ c.order → ((x : ℕ) → x < c.order → f x ≡ slice_index map x)
    → IsIsomorphism c d f g → IsMap c d map
map-along c d f g map m long e i = record {
  long = long;
  back = g;
  is = record {
    onto = λ x l. subst (λ v. v < d.order) (e x l) (i.onto x l);
    back = i.back;
    there_and_back = λ x l. ap g (sym (e x l)) ∙ i.there_and_back x l;
    back_and_there = λ y l. sym (e (g y) (i.back y l)) ∙ i.back_and_there y l;
    identity = sym (e 0 m.some) ∙ i.identity;
    products = λ x y k l.
        sym (e (c.times x y) (m.closed x y k l))
        ∙ (i.products x y k l ∙ ap₂ d.times (e x k) (e y l));
    portion = λ x l. ap d.portion (sym (e x l)) ∙ i.portion x l;
  };
}
