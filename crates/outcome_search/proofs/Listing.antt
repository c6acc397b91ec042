-- Lists of positions that grow by moves.
use Rattle.std.proofs.Common.{◌≡◌, ℕ, ◌<◌, ◌≤◌, Bool, true, false, List, [], ◌∷◌, ◌++◌, length, get_or, refl, sym, ap, ◌∙◌, subst, arith, All, append_assoc, remove, if◌then◌else◌}
use Rattle.std.proofs.lemmas.List.{length-append}
use Rattle.std.proofs.Math.ListN.{get_or-append}
use Rattle.std.proofs.lemmas.List.Elements.{All-cons, All-nil, All-push, All-append, All-weaker}
use Rattle.std.proofs.lemmas.Bool.Decides.{Decides-eqb}
use Rattle.std.proofs.lemmas.Slice.Eq.{slice_eq-Decides}
use Rattle.std.proofs.lemmas.Map.Made.{AllPairs-from_IsDistinct}
use Rattle.std.specs.List.{IsDistinct, list_any}
use Rattle.std.specs.Cmp.Lexicographic.{pointwise}
use Rattle.std.specs.Prelude.{nat_eq}
use Rattle.std.proofs.lemmas.List.Sorted.{IsPermutation-refl}
use Rattle.std.specs.List.Sorted.{IsNonDecreasing, IsPermutation}
use Rattle.misere_theory.specs.Games.{HeapOption}
use Rattle.indexmap.specs.IndexSet.{insert_key}
use Rattle.misere_theory.specs.Plays.{MoreReachableThan}
use Rattle.misere_theory.specs.Plays.Reachable.{Already, After}
use Rattle.misere_theory.proofs.Reachables.{reached_on}
use Rattle.outcome_search.specs.Reached.{IsNext, AddsMoves}
use Rattle.outcome_search.proofs.Heaps.{move_from_place}
use Rattle.outcome_search.specs.Searching.{IsOnTheWay}
use Rattle.outcome_search.proofs.Found.{rising_differ}

-- the position with the number stays
pub same_place : (code : List ℕ) (number : ℕ) (old new : List (List ℕ)) → number < length old
    → AddsMoves code number old new → get_or new number [] ≡ get_or old number []
same_place code number old new l (more, e, all) =
    ap (λ ys. get_or ys number []) e ∙ get_or-append old more [] number l

pub no_shorter : (code : List ℕ) (number : ℕ) (old new : List (List ℕ))
    → AddsMoves code number old new → length old ≤ length new
no_shorter code number old new (more, e, all) = let n = ap length e ∙ length-append old more in
    omega arith

pub stays : (code : List ℕ) (number : ℕ) (old new : List (List ℕ)) → number < length old
    → AddsMoves code number old new → number < length new
stays code number old new l adds = let n = no_shorter code number old new adds in omega arith

pub adds_one : (code : List ℕ) (number : ℕ) (old mid : List (List ℕ)) (Y : List ℕ)
    → IsNext code (get_or old number []) Y → AddsMoves code number old mid
    → AddsMoves code number old (insert_key (pointwise nat_eq) mid Y)
adds_one code number old mid Y next (more, e, all) = by (list_any (pointwise nat_eq Y) mid)
  where
    by : (b : Bool) → AddsMoves code number old (if b then mid else mid ++ Y ∷ [])
    by true = (more, e, all)
    by false = (
      more ++ Y ∷ [],
      ap (λ ys. ys ++ Y ∷ []) e ∙ append_assoc old more (Y ∷ []),
      All-push (IsNext code (get_or old number [])) more Y all next,
    )

pub adds_on : (code : List ℕ) (number : ℕ) (old mid new : List (List ℕ)) → number < length old
    → AddsMoves code number old mid → AddsMoves code number mid new → AddsMoves code number old new
adds_on code number old mid new l (more, e, all) (rest, f, each) = (
  more ++ rest,
  f ∙ ap (λ ys. ys ++ rest) e ∙ append_assoc old more rest,
  All-append (IsNext code (get_or old number [])) more rest all
      (subst (λ X. All (IsNext code X) rest) (same_place code number old mid l (more, e, all))
      each),
)

-- what moves lead to from a position on the way is on the way
pub on_the_way_on : (code X : List ℕ) (number : ℕ) (old new : List (List ℕ)) → number < length old
    → All (IsOnTheWay code X) old → AddsMoves code number old new → All (IsOnTheWay code X) new
on_the_way_on code X number old new l way (more, e, all) =
    let from = way number [] l in
    subst (All (IsOnTheWay code X)) (sym e)
    (All-append (IsOnTheWay code X) old more way
    (All-weaker (IsNext code (get_or old number [])) (IsOnTheWay code X)
    (λ Y n.
    record {
      reached = reached_on from.reached (After n.move (Already (IsPermutation-refl Y)));
      rising = n.rising;
    }) more all))

pub alone_on_the_way : (code X : List ℕ) → IsNonDecreasing X → All (IsOnTheWay code X) (X ∷ [])
alone_on_the_way code X up =
    All-cons (IsOnTheWay code X) X []
    (record { reached = Already (IsPermutation-refl X); rising = up }) (All-nil (IsOnTheWay code X))

-- more than n distinct positions on the way are more than n that can be reached
pub many_reached : (code X : List ℕ) (n : ℕ) (Ys : List (List ℕ)) → All (IsOnTheWay code X) Ys
    → n < length Ys → IsDistinct (pointwise nat_eq) Ys → MoreReachableThan code X n
many_reached code X n Ys way l d = (
  Ys,
  l,
  λ i k h. (way i k h).reached,
  λ i j k m h. rising_differ (get_or Ys i k) (get_or Ys j k) (way i k (omega arith)).rising
      (way j k h).rising
      (AllPairs-from_IsDistinct
      (λ Y Z. slice_eq-Decides Decides-eqb Y Z (pointwise nat_eq Y Z) refl) Ys d i j k m h),
)

-- the position behind a move from the one with the number
pub moved_on : (code : List ℕ) (number place : ℕ) (old mid : List (List ℕ)) (from H next : List ℕ)
    → number < length old → place < length (get_or old number [])
    → AddsMoves code number old mid → from ≡ get_or mid number []
    → HeapOption code (get_or (get_or old number []) place 0) H
    → IsPermutation (H ++ remove from place) next → IsNonDecreasing next
    → AddsMoves code number old (insert_key (pointwise nat_eq) mid next)
moved_on code number place old mid from H next l p adds is h s up =
    let same = is ∙ same_place code number old mid l adds in
    let next' : IsNext code (get_or old number []) next = record {
      move =
          move_from_place code (get_or old number []) place H next p h
          (subst (λ F. IsPermutation (H ++ remove F place) next) same s);
      rising = up;
    } in
    adds_one code number old mid next next' adds
