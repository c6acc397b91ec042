-- Indistinguishable positions form classes that sums respect, and a game has one misère quotient,
-- up to the numbering.
-- Parts of sums are exchanged one at a time. An element's partner is the other claim's value of a
-- position that has it.
use Rattle.std.proofs.Common.{◌≡◌, ℕ, ◌<◌, List, [], ◌∷◌, ◌++◌, sym, ◌∙◌, ap, ap₂, subst, append_assoc}
use Rattle.std.proofs.lemmas.List.Sorted.{IsPermutation-append_comm}
use native.Mathlib.Decide.{dec_lt}
use Rattle.misere_theory.specs.Games.{IsP, IsPosition, Indistinguishable}
use Rattle.misere_theory.specs.Quotients.{Claim, value, Represents, SameQuotient}
use Rattle.misere_theory.proofs.Sums.{IsPosition-append, value_in, value-append}
use Rattle.misere_theory.proofs.Shuffles.{p_shuffled, from_permutation, beside as put_beside}
use Rattle.std.specs.Cmp.{both_ways}
use Rattle.misere_theory.proofs.SameClaims.{value_of_heap}

module _ (heap : ℕ → Type 0) (code : List ℕ) where
  pub alike-refl : (X : List ℕ) → Indistinguishable heap code X X
  alike-refl X Z p = (λ h. h, λ h. h)

  pub alike-sym : (X Y : List ℕ) → Indistinguishable heap code X Y → Indistinguishable heap code Y X
  alike-sym X Y a Z p = ((a Z p).1, (a Z p).0)

  pub alike-trans : (X Y Z : List ℕ) → Indistinguishable heap code X Y
      → Indistinguishable heap code Y Z → Indistinguishable heap code X Z
  alike-trans X Y Z a b W p = (λ h. (b W p).0 ((a W p).0 h), λ h. (a W p).1 ((b W p).1 h))

  turned : (X Y Z : List ℕ) → IsP code ((X ++ Y) ++ Z) → IsP code ((Y ++ X) ++ Z)
  turned X Y Z h =
      p_shuffled h
      (put_beside (from_permutation (X ++ Y) (Y ++ X) (IsPermutation-append_comm X Y)) Z)

  -- what stands beside Y may stand behind it
  pub beside : (X U Y : List ℕ) → IsPosition heap Y → Indistinguishable heap code X U
      → Indistinguishable heap code (X ++ Y) (U ++ Y)
  beside X U Y q a Z p =
      rw (append_assoc X Y Z, append_assoc U Y Z) (a (Y ++ Z) (IsPosition-append heap Y Z q p))

  pub exchanged_parts : (X Y : List ℕ) → Indistinguishable heap code (X ++ Y) (Y ++ X)
  exchanged_parts X Y Z p = (λ h. turned X Y Z h, λ h. turned Y X Z h)

  -- sums of indistinguishable positions are indistinguishable
  pub sums_alike : (X U Y V : List ℕ) → IsPosition heap U → IsPosition heap Y
      → Indistinguishable heap code X U
      → Indistinguishable heap code Y V → Indistinguishable heap code (X ++ Y) (U ++ V)
  sums_alike X U Y V p q a b =
      alike-trans (X ++ Y) (U ++ Y) (U ++ V) (beside X U Y q a)
      (alike-trans (U ++ Y) (Y ++ U) (U ++ V) (exchanged_parts U Y)
      (alike-trans (Y ++ U) (V ++ U) (U ++ V) (beside Y V U p b) (exchanged_parts V U)))

-- Two claims that represent one game: each element of the one is the value of a position, whose
-- value in the other is its partner.
module _ (heap : ℕ → Type 0) (code : List ℕ) (c d : Claim) (rc : Represents heap code c)
    (rd : Represents heap code d) where
  pub partner : ℕ → ℕ
  partner x = elim (dec_lt x c.order) [ yes l ↦ value d (rc.reached x l).0 | no f ↦ 0 ]

  -- the partner of a position's value is its value in the other claim
  pub partner_of_value : (X : List ℕ) → IsPosition heap X → partner (value c X) ≡ value d X
  unfolding partner
  partner_of_value X p =
      elim (dec_lt (value c X) c.order) as
      (λ t. elim t [ yes l ↦ value d (rc.reached (value c X) l).0 | no f ↦ 0 ] ≡ value d X) [
        | yes l ↦ let (Y, q, e) = rc.reached (value c X) l in
            (rd.indistinguishable Y X q p).0 ((rc.indistinguishable Y X q p).1 e)
        | no f ↦ absurd (f (value_in heap c rc.monoid rc.elements X p))
      ]

  pub partner_at : (x : ℕ) → x < c.order → (X : List ℕ) × IsPosition heap X × (value c X ≡ x)
      × (partner x ≡ value d X)
  partner_at x l = let (X, p, e) = rc.reached x l in
      (X, p, e, ap partner (sym e) ∙ partner_of_value X p)

-- so the two are one quotient, up to the numbering
pub same_quotient : (heap : ℕ → Type 0) (code : List ℕ) (c d : Claim) (rc : Represents heap code c)
    (rd : Represents heap code d)
    → SameQuotient heap c d (partner heap code c d rc rd) (partner heap code d c rd rc)
same_quotient heap code c d rc rd = record {
  onto = λ x l. let (X, p, e, f) = at x l in
      subst (λ v. v < d.order) (sym f) (value_in heap d rd.monoid rd.elements X p);
  back = λ y l. let (Y, q, e, f) = back_at y l in
      subst (λ v. v < c.order) (sym f) (value_in heap c rc.monoid rc.elements Y q);
  there_and_back = λ x l. let (X, p, e, f) = at x l in
      ap back f ∙ partner_of_value heap code d c rd rc X p ∙ e;
  back_and_there = λ y l. let (Y, q, e, f) = back_at y l in
      ap there f ∙ partner_of_value heap code c d rc rd Y q ∙ e;
  identity = partner_of_value heap code c d rc rd [] tt;
  products = λ x y l k.
      let (X, p, e, f) = at x l in
      let (Y, q, h, i) = at y k in
      ap there
      (ap₂ c.times (sym e) (sym h) ∙ sym (value-append heap c rc.monoid rc.elements X Y p q))
      ∙ partner_of_value heap code c d rc rd (X ++ Y) (IsPosition-append heap X Y p q)
      ∙ value-append heap d rd.monoid rd.elements X Y p q
      ∙ ap₂ d.times (sym f) (sym i);
  heaps = λ n h.
      ap there (sym (value_of_heap c rc.monoid n (rc.elements n h)))
      ∙ partner_of_value heap code c d rc rd (n ∷ []) (h, tt)
      ∙ value_of_heap d rd.monoid n (rd.elements n h);
  portion = λ x l.
      let (X, p, e, f) = at x l in
      both_ways _ _
      (λ t. ap c.portion (sym e)
      ∙ (rc.predicts X p).0 ((rd.predicts X p).1 (ap d.portion (sym f) ∙ t)))
      (λ t. ap d.portion f ∙ (rd.predicts X p).0 ((rc.predicts X p).1 (ap c.portion e ∙ t)));
}
  where
    there : ℕ → ℕ
    there = partner heap code c d rc rd

    back : ℕ → ℕ
    back = partner heap code d c rd rc

    at : (x : ℕ) → x < c.order → (X : List ℕ) × IsPosition heap X × (value c X ≡ x)
        × (partner heap code c d rc rd x ≡ value d X)
    at = partner_at heap code c d rc rd

    back_at : (y : ℕ) → y < d.order → (Y : List ℕ) × IsPosition heap Y × (value d Y ≡ y)
        × (partner heap code d c rd rc y ≡ value c Y)
    back_at = partner_at heap code d c rd rc
