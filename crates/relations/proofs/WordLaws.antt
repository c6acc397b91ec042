-- Every vector is related to the word of its element.
-- By induction on the vector, one letter more at a time.
use Rattle.std.proofs.Common.{◌≡◌, ℕ, ◌<◌, List, length, refl}
use Rattle.std.specs.Prelude.{slice_index, All}
use Rattle.std.proofs.lemmas.List.Elements.{All-contains}
use Rattle.misere_theory.specs.Quotients.{Monoid}
use Rattle.monoid_table.specs.Grids.{Grid, times_in}
use Rattle.presentations.specs.Vectors.{zeros, bump}
use Rattle.presentations.specs.Congruences.{Related}
use Rattle.presentations.specs.Congruences.Related.{Same, Turned, Chained}
use Rattle.presentations.specs.Tables.{product_at}
use Rattle.presentations.proofs.CongruenceLaws.{Alike, bumped-related, related-alike}
use Rattle.presentations.proofs.VectorLaws.{length-zeros, by_letters}
use Rattle.presentations.proofs.ProductLaws.{product-none, product-bump}
use Rattle.relations.specs.Presented.{AreWords, PairsHold, Present}

module _ (table : Grid) (elements : List ℕ) (pairs : List (List ℕ × List ℕ))
    (m : Monoid table.order (times_in table)) (within : All (λ e. e < table.order) elements) where
  abbrev n : ℕ
  n = length elements

  abbrev value_of : List ℕ → ℕ
  value_of v = product_at (times_in table) elements v

  value-none : value_of (zeros n) ≡ 0
  value-none = product-none table.order (times_in table) m elements n refl

  value-bump : (v : List ℕ) (i : ℕ) → length v ≡ n → i < n
      → value_of (bump v i) ≡ times_in table (value_of v) (slice_index elements i)
  value-bump v i e lt =
      product-bump table.order (times_in table) m elements v i within e lt

  -- related vectors are one element
  pub value-alike : PairsHold table elements pairs → (u v : List ℕ) → Related n pairs u v
      → Alike n value_of u v
  value-alike hold =
      related-alike n value_of (λ x i. times_in table x (slice_index elements i)) value-bump pairs
      (λ r at.
      let h =
      All-contains (λ r. (length r.0 ≡ n) × (length r.1 ≡ n) × (value_of r.0 ≡ value_of r.1)) pairs r
      hold at in
      record { left = h.0; right = h.1; same = h.2 })

  -- the element of a vector is below the order
  value-in : (v : List ℕ) → length v ≡ n → value_of v < table.order
  value-in v e =
      by_letters n (λ v. value_of v < table.order) (rw value-none m.some)
      (λ w i e lt h. rw (value-bump w i e lt) (m.closed _ _ h (within i 0 lt))) v e

  module _ (word : ℕ → List ℕ) (are : AreWords table elements pairs word) where
    -- each vector is related to the word of its element
    to-word : (v : List ℕ) → length v ≡ n → Related n pairs v (word (value_of v))
    to-word v e =
        by_letters n (λ v. Related n pairs v (word (value_of v)))
        (rw (value-none, are.none) (Same (zeros n) (length-zeros n)))
        (λ w i e lt r.
        let x_in = value-in w e in
        rw (value-bump w i e lt)
        (Chained _ _ _ (bumped-related i e (are.long _ x_in) lt r) (are.step _ i x_in lt))) v e

    pub words-present : PairsHold table elements pairs → Present table elements pairs
    words-present hold = record {
      exact = λ u v eu ev. (
        λ same. Chained _ _ _ (rw same at (to-word u eu)) (Turned _ _ (to-word v ev)),
        λ r. (value-alike hold u v r).same,
      );
      reached = λ x lt. (word x, are.long x lt, are.value x lt);
    }
