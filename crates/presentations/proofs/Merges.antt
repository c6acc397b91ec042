-- Pointers that go down.
-- Each points to a related vector that doesn't stand behind it, and no merge raises their sum.
use Rattle.std.proofs.Common.{◌≡◌, ◌≢◌, ℕ, zero, suc, ◌+◌, ◌-◌, ◌<◌, ◌≤◌, List, [], ◌∷◌, ◌++◌, length, get_or, set, refl, sym, ap, ◌∙◌, inl, inr, arith, subst}
use Rattle.std.specs.Prelude.{slice_index, slice_index_or, sum, All, Option, IfSome}
use Rattle.std.specs.Option.{option_to_list}
use Rattle.std.proofs.lemmas.List.Elements.{All-pop}
use Rattle.std.proofs.lemmas.Bool.{cases_eq}
use Rattle.std.proofs.lemmas.List.Sums.{sum_by-cons}
use Rattle.std.proofs.lemmas.List.{get_or-set_same, get_or-set_other}
use Rattle.presentations.specs.declared.axes.Axis.{Axis}
use Rattle.presentations.specs.declared.read.Relation.{Relation}
use Rattle.presentations.specs.Congruences.Related.{Given, Same, Turned, Chained}
use Rattle.presentations.specs.Boxes.{size_of, vector_at, next_of, place_of}
use Rattle.presentations.specs.Words.{vector_on}
use Rattle.presentations.specs.Merging.{AreRelated, IsBox, MergeState, IsMerging, IsPointed, IsGap, Shrinks, letters_in, pairs_in, AreFirsts}
use Rattle.presentations.proofs.BoxLaws.{length-vector}
use Rattle.presentations.proofs.PlaceLaws.{length-word}
use Rattle.presentations.proofs.Folding.{step-related, relation-related}
use Rattle.presentations.proofs.WordLaws.{pair-of}

-- a smaller entry lowers the sum by as much
pub sum-set : (xs : List ℕ) (i v : ℕ) → v ≤ get_or xs i 0
    → sum (set xs i v) + (get_or xs i 0 - v) ≡ sum xs
sum-set [] i v le = omega arith
sum-set (x ∷ xs) zero v le = omega (arith, sum_by-cons (λ y. y) v xs, sum_by-cons (λ y. y) x xs)
sum-set (x ∷ xs) (suc i) v le =
    omega (
      arith,
      sum-set xs i v le,
      sum_by-cons (λ y. y) x (set xs i v),
      sum_by-cons (λ y. y) x xs,
    )

pub step : {axes : List Axis} {relations : List Relation} (u v i : ℕ) → IsBox axes relations
    → i < length axes → AreRelated axes relations u v
    → AreRelated axes relations (next_of axes i u) (next_of axes i v)
step {axes} {relations} u v i box lt r =
    step-related axes (pairs_in axes relations) box.axes_are box.powers u v i lt r

pub relation : {axes : List Axis} {relations : List Relation} (i : ℕ) (d : Relation)
    → IsBox axes relations → i < length relations
    → AreRelated axes relations
    (place_of axes (vector_on (letters_in axes) (slice_index_or relations i d).left))
    (place_of axes (vector_on (letters_in axes) (slice_index_or relations i d).right))
relation {axes} {relations} i d box lt =
    relation-related axes (pairs_in axes relations) box.axes_are box.powers _ _ (length-word axes _)
    (length-word axes _)
    (Given _ (pair-of (letters_in axes) relations i d lt))

pub shrinks-trans : {a b c : MergeState} → Shrinks a b → Shrinks b c → Shrinks a c
shrinks-trans s t =
    record {
      axes = t.axes ∙ s.axes;
      relations = t.relations ∙ s.relations;
      shorter = omega (arith, s.shorter, t.shorter);
    }

pub shrinks-same : (a : MergeState) → Shrinks a a
shrinks-same a = record { axes = refl; relations = refl; shorter = omega arith }

pub shrinks-pointed : {a b : MergeState} {at to : ℕ} → IsPointed a b at to
    → to ≤ get_or a.parents at 0 → Shrinks a b
shrinks-pointed {a} {at = at} {to = to} p le = record {
  axes = p.axes;
  relations = p.relations;
  shorter = omega (arith, ap sum p.parents, sum-set a.parents at to le);
}

pub gap-from : {axes : List Axis} {relations : List Relation} {parents : List ℕ} {u v x y : ℕ}
    → AreFirsts axes parents → u < size_of axes → v < size_of axes
    → x ≡ slice_index parents u → y ≡ slice_index parents v → x ≤ u → y ≤ v
    → AreRelated axes relations u x → AreRelated axes relations v y
    → AreRelated axes relations u v → x ≢ y
    → IsGap axes relations parents x y
gap-from {u = u} {v = v} firsts hu hv ex ey lx ly rx ry r ne = record {
  x_in = omega arith;
  y_in = omega arith;
  x_first = rw ex (firsts u hu);
  y_first = rw ey (firsts v hv);
  differ = ne;
  related = Chained _ _ _ (Turned _ _ rx) (Chained _ _ _ r ry);
}

-- one vector more points to the first of its class
pub flat-more : (parents : List ℕ) (i above : ℕ) → i < length parents
    → ((u : ℕ) → u < length parents → get_or parents u 0 ≤ u)
    → above ≡ get_or parents (get_or parents i 0) 0
    → ((u : ℕ) → u < i → get_or parents (get_or parents u 0) 0 ≡ get_or parents u 0)
    → (u : ℕ) → u < i + 1 → get_or (set parents i above) (get_or (set parents i above) u 0) 0
    ≡ get_or (set parents i above) u 0
flat-more parents i above lt down is firsts u h = elim (cases_eq u i) [
  | inl same ↦ rw (same, here) fixed
  | inr other ↦
      let before : u < i = omega (arith, other) in
      let low = down u (omega arith) in
      let apart : get_or parents u 0 ≢ i = λ e. absurd (omega (arith, e)) in
      rw (
        get_or-set_other parents i u above 0 other,
        get_or-set_other parents i (get_or parents u 0) above 0 apart,
      ) (firsts u before)
]
  where
    here : get_or (set parents i above) i 0 ≡ above
    here = get_or-set_same parents i above 0 lt

    fixed : get_or (set parents i above) above 0 ≡ above
    fixed = elim (cases_eq (get_or parents i 0) i) [
      | inl itself ↦ let same : above ≡ i = rw (itself, itself) at is in rw same (rw same at here)
      | inr lower ↦
          let low = down i lt in
          let under : get_or parents i 0 < i = omega (arith, lower) in
          let lower_still = down (get_or parents i 0) (omega arith) in
          let apart : above ≢ i = λ e. absurd (omega (arith, e, is)) in
          rw (get_or-set_other parents i above above 0 apart, is) (firsts (get_or parents i 0) under)
    ]

abbrev pub no_relation : Relation
no_relation = record { left = []; right = [] }

-- a pair that was joined
abbrev pub IsWaiting : List Axis → List Relation → ℕ × ℕ → Type 0
IsWaiting axes relations p = (p.0 < size_of axes) × (p.1 < size_of axes)
    × AreRelated axes relations p.0 p.1

-- other pairs wait
pub waiting-changed : {axes : List Axis} {relations : List Relation} {parents : List ℕ}
    {old new : List (ℕ × ℕ)} → IsMerging axes relations parents old
    → All (IsWaiting axes relations) new → IsMerging axes relations parents new
waiting-changed m waiting = record {
  box = m.box;
  length_is = m.length_is;
  down = m.down;
  related = m.related;
  waiting = waiting;
}

-- a pair less waits
pub popped : {axes : List Axis} {relations : List Relation} {parents : List ℕ}
    {old now : List (ℕ × ℕ)} (r : Option (ℕ × ℕ)) → IsMerging axes relations parents old
    → old ≡ now ++ option_to_list r
    → IsMerging axes relations parents now × IfSome r (IsWaiting axes relations)
popped {axes} {relations} r m e =
    let p = All-pop (IsWaiting axes relations) _ _ r e m.waiting in (waiting-changed m p.0, p.1)

-- each vector by itself
pub fresh-merging : {axes : List Axis} {relations : List Relation} {parents : List ℕ}
    {pending : List (ℕ × ℕ)} → IsBox axes relations → length parents ≡ size_of axes
    → ((i : ℕ) → i < size_of axes → slice_index parents i ≡ i) → pending ≡ []
    → IsMerging axes relations parents pending
fresh-merging {axes} box len same none = record {
  box = box;
  length_is = len;
  down = λ u h. omega (arith, same u h);
  related = λ u h. rw (same u h) (Same _ (length-vector axes u));
  waiting = rw none (λ k d lt. absurd (omega arith));
}
