-- What a search for longer lists says of shorter ones.
use Rattle.std.proofs.Common.{◌≡◌, ◌∙◌, ℕ, ◌+◌, ◌-◌, ◌*◌, ◌<◌, ◌≤◌, ◌++◌, ◌∷◌, [], List, length, ap, refl, subst, sym, arith}
use Rattle.std.proofs.lemmas.List.{length_push}
use Rattle.misere_theory.specs.Quotients.{Claim}
use Rattle.isomorphisms.specs.Images.{NoneTakes, Searches, alike_below, lists_of}
use Rattle.isomorphisms.specs.declared.searching.MapSearch.{MapSearch}
use Rattle.isomorphisms.specs.declared.searching.MapSearch.TheVariants.{Map, Nothing, Long}
use Rattle.isomorphisms.proofs.UnitLemmas.{few-for-next, lists-left, tried-more}

pub longer-by-one : (images longer : List ℕ) (y : ℕ) → longer ≡ images ++ y ∷ []
    → length longer ≡ length images + 1
longer-by-one images longer y is =
    let p = length_push images y in ap length is ∙ omega (arith, p)

module _ {A : Type 0} (c d : Claim) (col other : ℕ → ℕ) (images longer : List ℕ)
    (y count old units before left : ℕ) (is : longer ≡ images ++ y ∷ [])
    (alike : other y ≡ col (length images + 1))
    (some : old ≤ units
    + alike_below other (col (length images + 1)) y
    * (1 + lists_of col other d.order (length images + 1 + 1) (count - (length images + 1))))
    (pos : 0 < units) (one : before ≡ units - 1) where
  pub passed-on : (r : MapSearch A) → length images < count → y < d.order
      → Searches c d col other longer count before left r → (r ≡ Nothing → ⊥)
      → Searches c d col other images count old left r
  passed-on (Map map) few lt said not = said
  passed-on Nothing few lt said not = absurd (not refl)
  passed-on Long few lt said not =
      subst (λ n. old < n) (sym (lists-left col other d.order count (length images) few))
      (few-for-next other (col (length images + 1)) old units before d.order y _ alike some pos one
      lt (subst (λ n. before < lists_of col other d.order (n + 1) (count - n))
      (longer-by-one images longer y is) said))

  pub tried-in-vain : (r : MapSearch A) → r ≡ Nothing
      → Searches c d col other longer count before left r
      → NoneTakes c d (images ++ y ∷ [])
      × (old ≤ left
      + alike_below other (col (length images + 1)) (y + 1)
      * (1 + lists_of col other d.order (length images + 1 + 1) (count - (length images + 1))))
  tried-in-vain r nothing said =
      let s =
      subst (λ (q : MapSearch A). Searches c d col other longer count before left q) nothing said in (
        subst (NoneTakes c d) is s.0,
        tried-more other (col (length images + 1)) old units before left y _ alike some pos one
            (subst (λ n. before ≤ left + lists_of col other d.order (n + 1) (count - n))
            (longer-by-one images longer y is) s.1),
      )
