-- A box whose axes are the letters of relations, and pointers from its vectors to related ones
-- before them.
use Rattle.std.specs.Prelude.{◌≡◌, ◌≢◌, ℕ, ◌^◌, ◌<◌, ◌≤◌, List, length, slice_index, slice_index_or, slice_set, sum, map, All}
use Rattle.presentations.specs.declared.TheConstants.{LETTERS}
use Rattle.presentations.specs.declared.axes.Axis.{Axis}
use Rattle.presentations.specs.declared.read.Relation.{Relation}
use Rattle.presentations.specs.Vectors.{only}
use Rattle.presentations.specs.Congruences.{Related}
use Rattle.presentations.specs.Words.{vector_on, pairs_on}
use Rattle.presentations.specs.Boxes.{size_of, vector_at, place_of, next_of, AreAxes}

abbrev pub letters_in : List Axis → List ℕ
letters_in axes = map (λ a. a.letter) axes

-- the relations as pairs of vectors of the axes
abbrev pub pairs_in : List Axis → List Relation → List (List ℕ × List ℕ)
pairs_in axes relations = pairs_on (letters_in axes) relations

-- the vectors at two places are related
abbrev pub AreRelated : List Axis → List Relation → ℕ → ℕ → Type 0
AreRelated axes relations u v =
    Related (length axes) (pairs_in axes relations) (vector_at axes u) (vector_at axes v)

-- The axes are those of a box, each letter is below LETTERS, and each axis has its relation.
pub record IsBox (axes : List Axis) (relations : List Relation) : Type 0 where
  pub axes_are : AreAxes 1 axes
  pub small : size_of axes < 2 ^ 32
  pub letters : All (λ a. a.letter < LETTERS) axes
  pub powers : (i : ℕ) (d : Axis) → i < length axes
      → Related (length axes) (pairs_in axes relations)
      (only (length axes) i (slice_index_or axes i d).most)
      (only (length axes) i (slice_index_or axes i d).back)

pub record MergeState : Type 0 where
  pub axes : List Axis
  pub relations : List Relation
  pub parents : List ℕ
  pub pending : List (ℕ × ℕ)

pub record IsMerging (axes : List Axis) (relations : List Relation) (parents : List ℕ)
    (pending : List (ℕ × ℕ)) : Type 0 where
  pub box : IsBox axes relations
  pub length_is : length parents ≡ size_of axes
  pub down : (u : ℕ) → u < size_of axes → slice_index parents u ≤ u
  pub related : (u : ℕ) → u < size_of axes → AreRelated axes relations u (slice_index parents u)
  pub waiting : All (λ p. (p.0 < size_of axes) × (p.1 < size_of axes)
      × AreRelated axes relations p.0 p.1) pending

-- one pointer more, and nothing else
pub record IsPointed (old new : MergeState) (at to : ℕ) : Type 0 where
  pub axes : new.axes ≡ old.axes
  pub relations : new.relations ≡ old.relations
  pub parents : new.parents ≡ slice_set old.parents at to
  pub pending : new.pending ≡ old.pending

-- the box stays, and pointers only go down
pub record Shrinks (old new : MergeState) : Type 0 where
  pub axes : new.axes ≡ old.axes
  pub relations : new.relations ≡ old.relations
  pub shorter : sum new.parents ≤ sum old.parents

-- each vector points to the first of its class
abbrev pub AreFirsts : List Axis → List ℕ → Type 0
AreFirsts axes parents = (u : ℕ) → u < size_of axes → slice_index parents (slice_index parents u)
    ≡ slice_index parents u

-- each relation's words are in one class
abbrev pub RelationsHold : List Axis → List Relation → List ℕ → Type 0
RelationsHold axes relations classes =
    (i : ℕ) (d : Relation) → i < length relations
    → slice_index classes
    (place_of axes (vector_on (letters_in axes) (slice_index_or relations i d).left))
    ≡ slice_index classes
    (place_of axes (vector_on (letters_in axes) (slice_index_or relations i d).right))

-- a vector and the first of its class are in one class with one letter more
abbrev pub StepsHoldAt : List Axis → List ℕ → ℕ → Type 0
StepsHoldAt axes classes u = (i : ℕ) → i < length axes
    → slice_index classes (next_of axes i u)
    ≡ slice_index classes (next_of axes i (slice_index classes u))

abbrev pub StepsHold : List Axis → List ℕ → Type 0
StepsHold axes classes = (u : ℕ) → u < size_of axes → StepsHoldAt axes classes u

pub record AreClosed (axes : List Axis) (relations : List Relation) (classes : List ℕ) : Type 0
  where
    pub holds : RelationsHold axes relations classes
    pub steps : StepsHold axes classes

-- two related vectors that are firsts of different classes
pub record IsGap (axes : List Axis) (relations : List Relation) (classes : List ℕ) (x y : ℕ) : Type
    0 where
  pub x_in : x < size_of axes
  pub y_in : y < size_of axes
  pub x_first : slice_index classes x ≡ x
  pub y_first : slice_index classes y ≡ y
  pub differ : x ≢ y
  pub related : AreRelated axes relations x y

-- the classes of the least congruence: related vectors, and only those, are in one class
pub record AreClasses (axes : List Axis) (relations : List Relation) (classes : List ℕ) : Type 0
  where
    pub box : IsBox axes relations
    pub length_is : length classes ≡ size_of axes
    pub down : (u : ℕ) → u < size_of axes → slice_index classes u ≤ u
    pub related : (u : ℕ) → u < size_of axes → AreRelated axes relations u (slice_index classes u)
    pub firsts : AreFirsts axes classes
    pub closed : AreClosed axes relations classes
