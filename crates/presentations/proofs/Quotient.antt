-- Closed classes of related vectors are those of the least congruence.
-- The classes are a congruence with the relations, so what is related is in one class. Each vector
-- is related to the first of its class.
use Rattle.std.proofs.Common.{◌≡◌, ℕ, zero, suc, ◌<◌, List, [], ◌∷◌, length, refl, sym, ap, ◌∙◌, arith, subst}
use Rattle.std.specs.Prelude.{slice_index, slice_index_or, Contains, ◌↔◌}
use Rattle.presentations.specs.declared.axes.Axis.{Axis}
use Rattle.presentations.specs.declared.read.Relation.{Relation}
use Rattle.presentations.specs.Vectors.{plus, zeros, bump}
use Rattle.presentations.specs.Congruences.{Related}
use Rattle.presentations.specs.Congruences.Related.{Turned, Chained}
use Rattle.presentations.specs.Words.{vector_on, pairs_on}
use Rattle.presentations.specs.Boxes.{place_of, vector_at, next_of}
use Rattle.presentations.specs.Merging.{letters_in, pairs_in, AreClasses}
use Rattle.std.proofs.lemmas.List.{length-map, get_or-map}
use Rattle.presentations.proofs.CongruenceLaws.{Alike, alike-plus, related-alike}
use Rattle.presentations.proofs.BoxLaws.{place-bump, place-below}
use Rattle.presentations.proofs.PlaceLaws.{length-word}
use Rattle.presentations.proofs.Folding.{place-related}

-- the class of a vector
abbrev pub class_of : List Axis → List ℕ → List ℕ → ℕ
class_of axes classes v = slice_index classes (place_of axes v)

-- the relation's words as vectors
abbrev pair_in : List Axis → Relation → List ℕ × List ℕ
pair_in axes r = (vector_on (letters_in axes) r.left, vector_on (letters_in axes) r.right)

module _ {axes : List Axis} {relations : List Relation} {classes : List ℕ}
    (are : AreClasses axes relations classes) where
  -- one letter more depends on the class alone
  pub class-bump : (v : List ℕ) (i : ℕ) → length v ≡ length axes → i < length axes
      → class_of axes classes (bump v i)
      ≡ slice_index classes (next_of axes i (class_of axes classes v))
  class-bump v i len lt =
      ap (slice_index classes) (place-bump 1 axes v i are.box.axes_are len lt)
      ∙ are.closed.steps (place_of axes v) (place-below 1 axes v are.box.axes_are) i lt

  -- adding a vector depends on the classes alone
  pub class-plus : (u v w : List ℕ) → Alike (length axes) (class_of axes classes) u v
      → length w ≡ length axes → Alike (length axes) (class_of axes classes) (plus u w) (plus v w)
  class-plus =
      alike-plus (length axes) (class_of axes classes)
      (λ c i. slice_index classes (next_of axes i c)) class-bump

  related-alike-classes : (u v : List ℕ) → Related (length axes) (pairs_in axes relations) u v
      → Alike (length axes) (class_of axes classes) u v
  related-alike-classes =
      related-alike (length axes) (class_of axes classes)
      (λ c i. slice_index classes (next_of axes i c)) class-bump (pairs_in axes relations)
      (λ r at.
      let d : Relation = record { left = []; right = [] } in
      let lt : at.0 < length relations = omega (arith, at.1, length-map relations (pair_in axes)) in
      let is = sym (get_or-map (pair_in axes) relations at.0 d r lt) ∙ at.2 in
      rw (← is) (record {
        left = length-word axes _;
        right = length-word axes _;
        same = are.closed.holds at.0 d lt;
      }))

  -- two vectors are in one class exactly where they are related
  pub class-exact : (u v : List ℕ) → length u ≡ length axes → length v ≡ length axes
      → (class_of axes classes u ≡ class_of axes classes v)
      ↔ Related (length axes) (pairs_in axes relations) u v
  class-exact u v eu ev = (
    λ e. Chained _ _ _ (rw e at (to_class u eu)) (Turned _ _ (to_class v ev)),
    λ r. (related-alike-classes u v r).same,
  )
    where
      to_class : (w : List ℕ) → length w ≡ length axes
          → Related (length axes) (pairs_in axes relations) w
          (vector_at axes (class_of axes classes w))
      to_class w e =
          Chained _ _ _
          (place-related axes (pairs_in axes relations) are.box.axes_are are.box.powers w e)
          (are.related (place_of axes w) (place-below 1 axes w are.box.axes_are))
