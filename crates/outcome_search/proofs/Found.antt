-- The search: what is known is right, what is waiting waits for lighter positions, and all can be
-- reached.
use Rattle.std.proofs.Common.{◌≡◌, ◌≢◌, ℕ, suc, ◌+◌, ◌*◌, ◌-◌, ◌<◌, ◌≤◌, Bool, true, false, cond, List, [], ◌∷◌, ◌++◌, length, get_or, Some, None, refl, sym, ap, ◌∙◌, subst, arith, All, remove, take, drop, ⊎_elim, inl, inr}
use Rattle.std.proofs.lemmas.Bool.{cases_lt}
use Rattle.std.proofs.lemmas.List.{get_or_default, length-append}
use Rattle.std.proofs.Math.ListN.{get_or-append}
use Rattle.std.proofs.lemmas.List.Edits.{length-remove, get_or-remove_below}
use Rattle.std.proofs.lemmas.List.Elements.{All-cons, All-nil, All-push, All-append, All-take, All-drop, All-map, Contains-append_cases, Contains-append_right}
use Rattle.std.proofs.lemmas.Bool.Decides.{Decides-eqb}
use Rattle.std.proofs.lemmas.Slice.Eq.{slice_eq-Decides}
use Rattle.std.proofs.lemmas.List.Kept.{AllPairs-cons}
use Rattle.std.proofs.lemmas.Map.Entries.{length-keys_of}
use Rattle.std.proofs.lemmas.Map.Made.{AllPairs-from_IsDistinct}
use Rattle.std.proofs.lemmas.List.Quantifiers.{all_pairs_push, all_pairs_remove}
use Rattle.misere_theory.proofs.ListLaws.{AllPairs-one, AllPairs-append, nothing_in, only_in, itself_in}
use Rattle.std.specs.List.{AllPairs, Contains, IsDistinct}
use Rattle.std.specs.List.Sorted.{IsNonDecreasing, IsPermutation}
use Rattle.std.specs.Cmp.Lexicographic.{pointwise, nat_list_eq_equiv}
use Rattle.std.specs.Map.{keys_of}
use Rattle.std.specs.Prelude.{nat_eq}
use Rattle.std.proofs.lemmas.List.Sorted.{IsPermutation-refl}
use Rattle.misere_theory.specs.Games.{MultisetMove, measure}
use Rattle.misere_theory.specs.Plays.{Reachable, MoreReachableThan}
use Rattle.misere_theory.specs.Plays.Reachable.{Already, After}
use Rattle.misere_theory.proofs.Sums.{move_smaller}
use Rattle.misere_theory.proofs.Shuffles.{Shuffled, move_from_multiset, from_permutation}
use Rattle.misere_theory.proofs.Shuffles.Shuffled.{Same, Under, Flip, Then}
use Rattle.misere_theory.proofs.Reachables.{reached_on}
use Rattle.positions.specs.Outcomes.{HasOutcome}
use Rattle.outcome_search.specs.Known.{known, IsUnknown}
use Rattle.outcome_search.specs.Searching.{IsOnTheWay, IsSearch}
use Rattle.positions.specs.declared.outcome.Outcome.{Outcome}
use Rattle.outcome_search.specs.Settled.{Follows, IsSettledBy}
use Rattle.outcome_search.proofs.Seen.{same_position, follows_right, follows_on}
use Rattle.misere_theory.proofs.RisingLists.{rising_same}

measure_shuffled : {X Y : List ℕ} → Shuffled X Y → measure X ≡ measure Y
measure_shuffled Same = refl
measure_shuffled (Under {n = n} s) = ap (λ m. (2 * n - 1) + m) (measure_shuffled s)
measure_shuffled (Flip {a = a} {b = b} {X = X}) = omega arith
measure_shuffled (Then s t) = measure_shuffled s ∙ measure_shuffled t

pub lighter : (code X Y : List ℕ) → MultisetMove code X Y → measure Y < measure X
lighter code X Y m =
    let (Z, k, s) = move_from_multiset code X Y m in
    let e = measure_shuffled (from_permutation Z Y s) in
    let l = move_smaller k in
    omega arith

pub started : (code X : List ℕ) (budget : ℕ) → 1 ≤ budget → IsNonDecreasing X
    → IsSearch code X budget [] (X ∷ [])
started code X budget l up = record {
  right = All-nil (λ e. HasOutcome code e.0 e.1);
  memo_reached = All-nil (λ e. IsOnTheWay code X e.0);
  waiting_reached =
      All-cons (IsOnTheWay code X) X []
      (record { reached = Already (IsPermutation-refl X); rising = up })
      (All-nil (IsOnTheWay code X));
  new = All-cons (λ Y. known [] Y ≡ None) X [] refl (All-nil (λ Y. known [] Y ≡ None));
  falls = AllPairs-one (λ Y Z. measure Z < measure Y) X;
  first = refl;
  some = omega arith;
  within = omega arith;
  follows = λ Y p c. absurd (nothing_in (Y, p) c);
}

-- the last of those that wait, which is looked at
pub record IsTop (waiting : List (List ℕ)) (last : ℕ) (top : List ℕ) : Type 0 where
  pub place : last + 1 ≡ length waiting
  pub is : get_or waiting last top ≡ top

at_top : (P : List ℕ → Type 0) (waiting : List (List ℕ)) (last : ℕ) (top : List ℕ)
    → IsTop waiting last top → All P waiting → P top
at_top P waiting last top t h = subst P t.is (h last top (let e = t.place in omega arith))

-- all that wait, but for the last, are heavier than it
heavier : (waiting : List (List ℕ)) (last : ℕ) (top : List ℕ) → IsTop waiting last top
    → AllPairs (λ Y Z. measure Z < measure Y) waiting
    → (k : ℕ) (d : List ℕ) → k < last → measure top < measure (get_or waiting k d)
heavier waiting last top t falls k d l =
    let e = t.place in
    let f = falls k last top l (omega arith) in
    subst (λ Y. measure top < measure Y) (get_or_default waiting k top d (omega arith))
    (subst (λ Z. measure Z < measure (get_or waiting k top)) t.is f)

All-without : (P : List ℕ → Type 0) (xs : List (List ℕ)) (i : ℕ) → All P xs → All P (remove xs i)
All-without P xs i h =
    All-append P (take i xs) (drop (suc i) xs) (All-take P i xs h) (All-drop P (suc i) xs h)

-- what is not known stays so, beside the outcome of another position
known_first : (e : List ℕ × Outcome) (es : List (List ℕ × Outcome)) (Z : List ℕ)
    → known (e ∷ es) Z ≡ None → (pointwise nat_eq Z e.0 ≡ false) × (known es Z ≡ None)
known_first e es Z h = by (pointwise nat_eq Z e.0) refl
  where
    by : (b : Bool) → pointwise nat_eq Z e.0 ≡ b → (pointwise nat_eq Z e.0 ≡ false)
        × (known es Z ≡ None)
    by true same = let value : Some e.1 ≡ None = ap (λ b. cond b (Some e.1) (known es Z)) (sym same)
        ∙ h in absurd (cc)
    by false apart = (apart, ap (λ b. cond b (Some e.1) (known es Z)) (sym apart) ∙ h)

other_position : (Y Z : List ℕ) → Y ≢ Z → pointwise nat_eq Y Z ≡ false
other_position Y Z apart = by (pointwise nat_eq Y Z) refl
  where
    by : (b : Bool) → pointwise nat_eq Y Z ≡ b → pointwise nat_eq Y Z ≡ false
    by true e = absurd (apart (same_position Y Z e))
    by false e = e

known_more : (top : List ℕ) (o : Outcome) (Z : List ℕ) → Z ≢ top → (es : List (List ℕ × Outcome))
    → known es Z ≡ None → known (es ++ (top, o) ∷ []) Z ≡ None
known_more top o Z apart [] h = ap (λ b. cond b (Some o) None) (other_position Z top apart)
known_more top o Z apart (e ∷ es) h =
    let (f, r) = known_first e es Z h in
    ap (λ b. cond b (Some e.1) (known (es ++ (top, o) ∷ []) Z)) f ∙ known_more top o Z apart es r

itself_known : (Z : List ℕ) → pointwise nat_eq Z Z ≡ true
itself_known Z = nat_list_eq_equiv.refl Z

-- nothing is known of Y: no key is Y
no_key : (Y : List ℕ) (es : List (List ℕ × Outcome)) → known es Y ≡ None
    → All (λ K. Y ≢ K) (keys_of es)
no_key Y [] h = All-nil (λ K. Y ≢ K)
no_key Y (e ∷ es) h =
    let (f, r) = known_first e es Y h in
    All-cons (λ K. Y ≢ K) e.0 (keys_of es) (λ same. let t : pointwise nat_eq Y e.0
    ≡ true = subst (λ K. pointwise nat_eq Y K ≡ true) same (itself_known Y) in absurd (cc))
    (no_key Y es r)

-- no order of the one's heaps is the other's
abbrev pub Differ : List ℕ → List ℕ → Type 0
Differ Y Z = IsPermutation Y Z → ⊥

pub rising_differ : (Y Z : List ℕ) → IsNonDecreasing Y → IsNonDecreasing Z → Y ≢ Z → Differ Y Z
rising_differ Y Z up vp apart s = apart (rising_same Y Z up vp s)

lighter_differ : (Y Z : List ℕ) → measure Y < measure Z → Differ Y Z
lighter_differ Y Z l s = let e = measure_shuffled (from_permutation Y Z s) in omega arith

heavier_differ : (Y Z : List ℕ) → measure Z < measure Y → Differ Y Z
heavier_differ Y Z l s = let e = measure_shuffled (from_permutation Y Z s) in omega arith

module _ (code X : List ℕ) (budget : ℕ) (memo : List (List ℕ × Outcome)) (waiting : List (List ℕ))
    (s : IsSearch code X budget memo waiting) (last : ℕ) (top : List ℕ) (t : IsTop waiting last top)
  where
    on_the_way : (Y : List ℕ) → IsUnknown code top memo Y → IsOnTheWay code X Y
    on_the_way Y u = record {
      reached = reached_on (at_top (IsOnTheWay code X) waiting last top t s.waiting_reached).reached
          (After u.move (Already (IsPermutation-refl Y)));
      rising = u.rising;
    }

    -- what a move leads to is lighter than all that wait
    lightest : (Y : List ℕ) → IsUnknown code top memo Y → (k : ℕ) (d : List ℕ) → k < length waiting
        → measure Y < measure (get_or waiting k d)
    lightest Y u k d l =
        let down = lighter code top Y u.move in
        ⊎_elim
        (λ b. let h = heavier waiting last top t s.falls k d b in omega arith)
        (λ b.
        let e = t.place in
        let same : k ≡ last = omega arith in
        let is : get_or waiting k d ≡ top =
        ap (λ i. get_or waiting i d) same ∙ get_or_default waiting last d top (omega arith) ∙ t.is
        in
        subst (λ Z. measure Y < measure Z) (sym is) down)
        (cases_lt k last)

    pub opened : (Y : List ℕ) → IsUnknown code top memo Y → length memo + length waiting < budget
        → IsSearch code X budget memo (waiting ++ Y ∷ [])
    opened Y u l = record {
      right = s.right;
      memo_reached = s.memo_reached;
      waiting_reached = All-push (IsOnTheWay code X) waiting Y s.waiting_reached (on_the_way Y u);
      new = All-push (λ Z. known memo Z ≡ None) waiting Y s.new u.not_known;
      falls = all_pairs_push (λ Z W. measure W < measure Z) waiting Y s.falls (lightest Y u);
      first = get_or-append waiting (Y ∷ []) [] 0 s.some ∙ s.first;
      some = let n = length-append waiting (Y ∷ []) in let m = s.some in omega arith;
      within = let n = length-append waiting (Y ∷ []) in omega arith;
      follows = s.follows;
    }

    still_new : (o : Outcome)
        → All (λ Z. known (memo ++ (top, o) ∷ []) Z ≡ None) (remove waiting last)
    still_new o k d m =
        let e = t.place in
        let n = length-remove waiting last (omega arith) in
        let b : k < last = omega arith in
        let h = heavier waiting last top t s.falls k d b in
        subst (λ Z. known (memo ++ (top, o) ∷ []) Z ≡ None)
        (sym (get_or-remove_below waiting last d k b (omega arith)))
        (known_more top o (get_or waiting k d) (λ same. let f = ap measure same in omega arith) memo
        (s.new k d (omega arith)))

    -- the first that waits is the last where it waits alone
    pub alone : last ≡ 0 → top ≡ X
    alone e = sym t.is ∙ ap (λ i. get_or waiting i top) e ∙ get_or_default waiting 0 top [] s.some
        ∙ s.first

    all_follow : (o : Outcome) → Follows code memo top o → (Y : List ℕ) (p : Outcome)
        → Contains (memo ++ (top, o) ∷ []) (Y, p) → Follows code (memo ++ (top, o) ∷ []) Y p
    all_follow o f Y p c =
        follows_on code memo ((top, o) ∷ []) Y p
        (elim (Contains-append_cases memo ((top, o) ∷ []) (Y, p) c) [
          | inl i ↦ s.follows Y p i
          | inr i ↦ subst (λ e. Follows code memo e.0 e.1) (only_in (top, o) (Y, p) i) f
        ])

    -- the last outcome of all is settled by those before
    pub settled : (o : Outcome) → last ≡ 0 → Follows code memo top o → IsSettledBy code X o budget
    settled o e f = record {
      list = memo ++ (top, o) ∷ [];
      few = omega (arith, length-append memo ((top, o) ∷ []), s.within, s.some);
      here =
          subst (λ Y. Contains (memo ++ (top, o) ∷ []) (Y, o)) (alone e)
          (Contains-append_right memo ((top, o) ∷ []) (top, o) (itself_in (top, o)));
      follows = all_follow o f;
    }

    pub last_outcome : (o : Outcome) → last ≡ 0 → Follows code memo top o → HasOutcome code X o
    last_outcome o e f =
        subst (λ Y. HasOutcome code Y o) (alone e) (follows_right code memo top o s.right f)

    pub closed : (o : Outcome) → 0 < last → Follows code memo top o
        → IsSearch code X budget (memo ++ (top, o) ∷ []) (remove waiting last)
    closed o l h = record {
      right =
          All-push (λ e. HasOutcome code e.0 e.1) memo (top, o) s.right
          (follows_right code memo top o s.right h);
      follows = all_follow o h;
      memo_reached =
          All-push (λ e. IsOnTheWay code X e.0) memo (top, o) s.memo_reached
          (at_top (IsOnTheWay code X) waiting last top t s.waiting_reached);
      waiting_reached = All-without (IsOnTheWay code X) waiting last s.waiting_reached;
      new = still_new o;
      falls = all_pairs_remove (λ Z W. measure W < measure Z) waiting last (omega arith) s.falls;
      first = get_or-remove_below waiting last [] 0 l (omega arith) ∙ s.first;
      some = omega (arith, length-remove waiting last (omega arith));
      within = omega (
        arith,
        s.within,
        length-remove waiting last (omega arith),
        length-append memo ((top, o) ∷ []),
      );
    }

    keys_on_the_way : All (IsOnTheWay code X) (keys_of memo)
    keys_on_the_way = All-map (IsOnTheWay code X) (λ e. e.0) memo s.memo_reached

    keys_differ : IsDistinct (pointwise nat_eq) (keys_of memo) → AllPairs Differ (keys_of memo)
    keys_differ d i j k l m =
        rising_differ (get_or (keys_of memo) i k) (get_or (keys_of memo) j k)
        (keys_on_the_way i k (omega arith)).rising (keys_on_the_way j k m).rising
        (AllPairs-from_IsDistinct
        (λ Y Z. slice_eq-Decides Decides-eqb Y Z (pointwise nat_eq Y Z) refl) (keys_of memo) d i j
        k l m)

    waiting_differ : AllPairs Differ waiting
    waiting_differ i j k l m =
        heavier_differ (get_or waiting i k) (get_or waiting j k) (s.falls i j k l m)

    key_differs : (K Z : List ℕ) → Contains (keys_of memo) K → Contains waiting Z → Differ K Z
    key_differs K Z (i, l, is) (j, m, js) =
        let none : known memo Z ≡ None = subst (λ W. known memo W ≡ None) js (s.new j Z m) in
        rising_differ K Z (subst IsNonDecreasing is (keys_on_the_way i K l).rising)
        (subst IsNonDecreasing js (s.waiting_reached j Z m).rising)
        (λ same. subst (λ W. Z ≢ W) is (no_key Z memo none i K l) (sym same))

    pub over : (Y : List ℕ) → IsUnknown code top memo Y → budget ≤ length memo + length waiting
        → IsDistinct (pointwise nat_eq) (keys_of memo) → MoreReachableThan code X budget
    over Y u l d =
        let n = length-append (keys_of memo) waiting in
        let m = length-keys_of memo in
        let none = no_key Y memo u.not_known in (
          Y ∷ (keys_of memo ++ waiting),
          omega arith,
          All-cons (Reachable code X) Y (keys_of memo ++ waiting) (on_the_way Y u).reached
              (All-append (Reachable code X) (keys_of memo) waiting
              (λ i k h. (keys_on_the_way i k h).reached)
              (λ i k h. (s.waiting_reached i k h).reached)),
          AllPairs-cons Differ Y (keys_of memo ++ waiting)
              (All-append (Differ Y) (keys_of memo) waiting
              (λ i k h. rising_differ Y (get_or (keys_of memo) i k) u.rising
              (keys_on_the_way i k h).rising (none i k h))
              (λ i k h. lighter_differ Y (get_or waiting i k) (lightest Y u i k h)))
              (AllPairs-append Differ (keys_of memo) waiting (keys_differ d) waiting_differ
              key_differs),
        )

-- the position itself can be reached
pub itself_reached : (code X : List ℕ) → MoreReachableThan code X 0
itself_reached code X = (
  X ∷ [],
  omega arith,
  All-cons (Reachable code X) X [] (Already (IsPermutation-refl X))
      (All-nil (Reachable code X)),
  AllPairs-one Differ X,
)
