-- What a look at the moves of a position shows.
use Rattle.std.proofs.Common.{◌≡◌, ℕ, zero, suc, ◌+◌, ◌-◌, ◌<◌, Bool, true, false, cond, List, [], ◌∷◌, ◌++◌, length, get_or, Some, refl, sym, ap, ap₂, ◌∙◌, subst, inl, inr, arith, All, remove, append_assoc}
use borrow.Author.Count.{below_more}
use Rattle.std.specs.List.{Contains}
use Rattle.std.specs.List.Sorted.{IsPermutation}
use Rattle.std.specs.Cmp.Lexicographic.{pointwise}
use Rattle.std.specs.Prelude.{nat_eq}
use Rattle.std.proofs.lemmas.Bool.Decides.{Decides-eqb}
use Rattle.std.proofs.lemmas.Slice.Eq.{slice_eq-Decides}
use Rattle.std.proofs.lemmas.List.Elements.{Contains-append_left, Contains-append_right, Contains-append_cases}
use Rattle.std.proofs.lemmas.List.Sorted.{IsPermutation-refl, IsPermutation-sym, IsPermutation-cons, IsPermutation-trans, IsPermutation-append_left, IsPermutation-middle}
use Rattle.misere_theory.specs.Games.{Move, MultisetMove, HeapOption}
use Rattle.misere_theory.specs.Games.Move.{Here, There}
use Rattle.misere_theory.specs.Games.IsP.{AllLose}
use Rattle.misere_theory.specs.Games.IsN.{Ended, Wins as ByMove}
use Rattle.misere_theory.proofs.Shuffles.{move_from_multiset, from_permutation, p_shuffled, n_shuffled}
use Rattle.heap_options.specs.Exact.{heaps_of}
use Rattle.heap_options.specs.Options.{options_of}
use Rattle.heap_options.specs.declared.left.Left.{Left}
use Rattle.misere_theory.proofs.ListLaws.{nothing_in, only_in, itself_in}
use Rattle.outcome_search.proofs.Heaps.{move_from_place}
use Rattle.positions.specs.Outcomes.{HasOutcome}
use Rattle.outcome_search.specs.Settled.{Lists, Follows}
use Rattle.outcome_search.specs.Known.{known, AreMistakes, HasSeen}
use Rattle.positions.specs.declared.outcome.Outcome.{Outcome}
use Rattle.positions.specs.declared.outcome.Outcome.TheVariants.{P, N}
use Rattle.outcome_search.specs.declared.look.Seen.{Seen}
use Rattle.outcome_search.specs.declared.look.Seen.TheVariants.{Nothing, Loses, Wins, Unknown}

pub same_position : (X Y : List ℕ) → pointwise nat_eq X Y ≡ true → X ≡ Y
same_position X Y e = (slice_eq-Decides Decides-eqb X Y (pointwise nat_eq X Y) refl).0 e

known_first : (e : List ℕ × Outcome) (memo : List (List ℕ × Outcome)) (X : List ℕ) (o : Outcome)
    → known (e ∷ memo) X ≡ Some o → (known memo X ≡ Some o → Contains memo (X, o))
    → Contains (e ∷ memo) (X, o)
known_first e memo X o is rest = by (pointwise nat_eq X e.0) refl
  where
    by : (b : Bool) → pointwise nat_eq X e.0 ≡ b → Contains (e ∷ memo) (X, o)
    by true same =
        let value : Some e.1 ≡ Some o = ap (λ b. cond b (Some e.1) (known memo X)) (sym same) ∙ is
        in
        let eq : e.1 ≡ o = cc in
        let pair : e ≡ (X, o) = ap₂ (λ Y p. (Y, p)) (sym (same_position X e.0 same)) eq in
        Contains-append_left (e ∷ []) memo (X, o)
        (subst (λ v. Contains (e ∷ []) v) pair (itself_in e))
    by false apart =
        Contains-append_right (e ∷ []) memo (X, o)
        (rest (ap (λ b. cond b (Some e.1) (known memo X)) (sym apart) ∙ is))

-- what is known of X stands in the list
pub known_listed : (memo : List (List ℕ × Outcome)) (X : List ℕ) (o : Outcome)
    → known memo X ≡ Some o → Contains memo (X, o)
known_listed [] X o is = absurd (cc)
known_listed (e ∷ memo) X o is = known_first e memo X o is (known_listed memo X o)

-- what is listed holds of each order of the heaps
pub listed_in_order : (memo : List (List ℕ × Outcome)) (Y Z : List ℕ) (o : Outcome)
    → known memo Y ≡ Some o → IsPermutation Y Z → Lists memo Z o
listed_in_order memo Y Z o is s = (Y, known_listed memo Y o is, s)

-- a move to what is known to be a P-position, whatever the order of its heaps
pub wins_by : (code X Y : List ℕ) (memo : List (List ℕ × Outcome)) → MultisetMove code X Y
    → known memo Y ≡ Some P → (Z : List ℕ) × Move code X Z × Lists memo Z P
wins_by code X Y memo m is =
    let (Z, k, s) = move_from_multiset code X Y m in
    (Z, k, listed_in_order memo Y Z P is (IsPermutation-sym Z Y s))

-- a move takes place at some place
pub move_at : {code X Z : List ℕ} → Move code X Z → (i : ℕ) × (i < length X)
    × ((H : List ℕ) × HeapOption code (get_or X i 0) H × IsPermutation (H ++ remove X i) Z)
move_at (Here {X = X} {H = H} h e) = (0, omega arith, (H, h, rw e (IsPermutation-refl (H ++ X))))
move_at (There {n = n} {X = X} {X' = Y} m e) =
    let (i, l, (H, h, s)) = move_at m in (
      suc i,
      omega arith,
      (
        H,
        h,
        rw e (IsPermutation-trans (H ++ n ∷ remove X i) (n ∷ (H ++ remove X i)) (n ∷ Y)
            (IsPermutation-middle H n (remove X i)) (IsPermutation-cons n (H ++ remove X i) Y s)),
      ),
    )

-- every option of a heap is in its list, up to the order of its parts
abbrev pub HasEach : Type 0
HasEach = (code : List ℕ) (n : ℕ) (H : List ℕ) → HeapOption code n H
    → (left : Left) × Contains (options_of code n) left × IsPermutation (heaps_of left) H

-- where all options of all heaps are mistakes, every move is
pub all_mistakes : HasEach → (code X : List ℕ) (memo : List (List ℕ × Outcome))
    → ((k : ℕ) → k < length X → AreMistakes memo X k (options_of code (get_or X k 0)))
    → (Z : List ℕ) → Move code X Z → Lists memo Z N
all_mistakes each code X memo all Z m =
    let (i, l, (H, h, s)) = move_at m in
    let (left, c, t) = each code (get_or X i 0) H h in
    all i l left c Z
    (IsPermutation-trans (heaps_of left ++ remove X i) (H ++ remove X i) Z
    (IsPermutation-append_left (remove X i) (heaps_of left) H t) s)

-- where no heap has an option there is no move
pub no_options : HasEach → (code X : List ℕ)
    → ((k : ℕ) → k < length X → options_of code (get_or X k 0) ≡ []) → (Z : List ℕ) → Move code X Z
    → ⊥
no_options each code X all Z m =
    let (i, l, (H, h, s)) = move_at m in
    let (left, c, t) = each code (get_or X i 0) H h in
    nothing_in left (subst (λ xs. Contains xs left) (all i l) c)

-- an option of a heap makes a move
pub move_by : (code X : List ℕ) (k : ℕ) (H : List ℕ) → k < length X
    → HeapOption code (get_or X k 0) H → (Y : List ℕ) × Move code X Y
move_by code X k H l h =
    let (Y, m, s) =
    move_from_multiset code X (H ++ remove X k)
    (move_from_place code X k H (H ++ remove X k) l h (IsPermutation-refl (H ++ remove X k))) in
    (Y, m)

-- two heaps of one size side by side: without the one, the others are those without the other
pub removed_alike : (X : List ℕ) (k : ℕ) → suc k < length X → get_or X k 0 ≡ get_or X (suc k) 0
    → remove X k ≡ remove X (suc k)
removed_alike [] k l e = absurd (omega arith)
removed_alike (x ∷ []) k l e = absurd (omega arith)
removed_alike (x ∷ y ∷ X) zero l e = ap (λ z. z ∷ X) (sym e)
removed_alike (x ∷ y ∷ X) (suc k) l e = ap (λ ys. x ∷ ys) (removed_alike (y ∷ X) k (omega arith) e)

pub mistakes_alike : (code X : List ℕ) (memo : List (List ℕ × Outcome)) (k : ℕ) → suc k < length X
    → get_or X k 0 ≡ get_or X (suc k) 0 → AreMistakes memo X k (options_of code (get_or X k 0))
    → AreMistakes memo X (suc k) (options_of code (get_or X (suc k) 0))
mistakes_alike code X memo k l e h left c Y s =
    h left (subst (λ n. Contains (options_of code n) left) (sym e) c) Y
    (subst (λ R. IsPermutation (heaps_of left ++ R) Y) (sym (removed_alike X k l e)) s)

-- what the options so far have shown, where the look goes on
abbrev pub IsOn : List (List ℕ × Outcome) → List ℕ → ℕ → List Left → Seen → Type 0
IsOn memo X at lefts Nothing = lefts ≡ []
IsOn memo X at lefts Loses = AreMistakes memo X at lefts × ((left : Left) × Contains lefts left)
IsOn memo X at lefts Wins = ⊥
IsOn memo X at lefts Unknown = ⊥

-- the next item of a list that is walked
pub walked : {A : Type 0} (xs ys zs : List A) (x : A) (rest : List A) → xs ++ ys ≡ zs
    → ys ≡ x ∷ rest → ((xs ++ x ∷ []) ++ rest ≡ zs) × Contains zs x
walked xs ys zs x rest whole first =
    let e : xs ++ (x ∷ rest) ≡ zs = ap (λ v. xs ++ v) (sym first) ∙ whole in (
      append_assoc xs (x ∷ []) rest ∙ e,
      subst (λ v. Contains v x) e
          (Contains-append_right xs (x ∷ rest) x
          (Contains-append_left (x ∷ []) rest x (itself_in x))),
    )

mistakes_before : (memo : List (List ℕ × Outcome)) (X : List ℕ) (at : ℕ) (lefts : List Left)
    (seen : Seen) → IsOn memo X at lefts seen → AreMistakes memo X at lefts
mistakes_before memo X at lefts Nothing h =
    λ left c. absurd (nothing_in left (subst (λ xs. Contains xs left) h c))
mistakes_before memo X at lefts Loses h = h.0
mistakes_before memo X at lefts over h = absurd h

pub one_more : (memo : List (List ℕ × Outcome)) (X : List ℕ) (at : ℕ) (lefts : List Left)
    (seen : Seen) (left : Left) (Y : List ℕ) → IsOn memo X at lefts seen
    → IsPermutation (heaps_of left ++ remove X at) Y → known memo Y ≡ Some N
    → AreMistakes memo X at (lefts ++ left ∷ [])
    × ((left' : Left) × Contains (lefts ++ left ∷ []) left')
one_more memo X at lefts seen left Y h s n = (
  λ left' c Z t. elim (Contains-append_cases lefts (left ∷ []) left' c) [
    | inl i ↦ mistakes_before memo X at lefts seen h left' i Z t
    | inr i ↦
        let t' : IsPermutation (heaps_of left ++ remove X at) Z =
        subst (λ v. IsPermutation (heaps_of v ++ remove X at) Z) (sym (only_in left left' i)) t
        in
        listed_in_order memo Y Z N n
        (IsPermutation-trans Y (heaps_of left ++ remove X at) Z
        (IsPermutation-sym (heaps_of left ++ remove X at) Y s) t')
  ],
  (left, Contains-append_right lefts (left ∷ []) left (itself_in left)),
)

pub seen_all : (code X : List ℕ) (memo : List (List ℕ × Outcome)) (at : ℕ) (lefts all : List Left)
    (seen : Seen) (next : List ℕ) → lefts ≡ all → IsOn memo X at lefts seen
    → HasSeen code X memo at all seen next
seen_all code X memo at lefts all Nothing next e h = sym e ∙ h
seen_all code X memo at lefts all Loses next e h =
    subst (λ v. AreMistakes memo X at v × ((left : Left) × Contains v left)) e h
seen_all code X memo at lefts all over next e h = absurd h

-- whether a move was seen at the first n heaps
abbrev pub CanMove : List ℕ → List ℕ → ℕ → Bool → Type 0
CanMove code X n true = (Y : List ℕ) × Move code X Y
CanMove code X n false = (k : ℕ) → k < n → options_of code (get_or X k 0) ≡ []

-- the first n heaps have shown no winning move
pub record HasLooked (code X : List ℕ) (memo : List (List ℕ × Outcome)) (n : ℕ) (can_move : Bool) :
    Type 0 where
  pub mistakes : (k : ℕ) → k < n → AreMistakes memo X k (options_of code (get_or X k 0))
  pub moves : CanMove code X n can_move

more_moves : (code X : List ℕ) (n : ℕ) (can_move : Bool) → CanMove code X n can_move
    → options_of code (get_or X n 0) ≡ [] → CanMove code X (n + 1) can_move
more_moves code X n true m e = m
more_moves code X n false m e = below_more (λ k. options_of code (get_or X k 0) ≡ []) n m e

again_moves : (code X : List ℕ) (k : ℕ) (can_move : Bool) → get_or X k 0 ≡ get_or X (suc k) 0
    → CanMove code X (suc k) can_move → CanMove code X (suc k + 1) can_move
again_moves code X k true e m = m
again_moves code X k false e m =
    more_moves code X (suc k) false m (ap (options_of code) (sym e) ∙ m k (omega arith))

module _ (code X : List ℕ) (memo : List (List ℕ × Outcome)) where
  abbrev Mistakes : ℕ → Type 0
  Mistakes k = AreMistakes memo X k (options_of code (get_or X k 0))

  pub looked_none : (n : ℕ) (can_move : Bool) → HasLooked code X memo n can_move
      → options_of code (get_or X n 0) ≡ [] → HasLooked code X memo (n + 1) can_move
  looked_none n can_move h e = record {
    mistakes =
        below_more Mistakes n h.mistakes
        (λ left c. absurd (nothing_in left (subst (λ xs. Contains xs left) e c)));
    moves = more_moves code X n can_move h.moves e;
  }

  pub looked_loses : (n : ℕ) (can_move : Bool) → n < length X → HasLooked code X memo n can_move
      → Mistakes n → (H : List ℕ) → HeapOption code (get_or X n 0) H
      → HasLooked code X memo (n + 1) true
  looked_loses n can_move l h all H o = record {
    mistakes = below_more Mistakes n h.mistakes all;
    moves = move_by code X n H l o;
  }

  pub looked_again : (n : ℕ) (can_move : Bool) → 0 < n → n < length X
      → get_or X (n - 1) 0 ≡ get_or X n 0 → HasLooked code X memo n can_move
      → HasLooked code X memo (n + 1) can_move
  looked_again zero can_move p l e h = absurd (omega arith)
  looked_again (suc k) can_move p l e h =
      let e' : get_or X k 0 ≡ get_or X (suc k) 0 =
      ap (λ i. get_or X i 0) (let s : k ≡ suc k - 1 = omega arith in s) ∙ e in
      record {
        mistakes =
            below_more Mistakes (suc k) h.mistakes
            (mistakes_alike code X memo k l e' (h.mistakes k (omega arith)));
        moves = again_moves code X k can_move e' h.moves;
      }

  looked_all_case : HasEach → (can_move : Bool) → HasLooked code X memo (length X) can_move
      → Follows code memo X (cond can_move P N)
  looked_all_case each true h = (h.moves, all_mistakes each code X memo h.mistakes)
  looked_all_case each false h = inl (no_options each code X h.moves)

  pub looked_all : HasEach → (n : ℕ) (can_move b : Bool) → HasLooked code X memo n can_move
      → n ≡ length X → can_move ≡ b → Follows code memo X (cond b P N)
  looked_all each n can_move b h over is =
      looked_all_case each b (subst (λ c. HasLooked code X memo (length X) c) is
      (subst (λ m. HasLooked code X memo m can_move) over h))

listed_right : (code : List ℕ) (memo : List (List ℕ × Outcome)) (e : List ℕ × Outcome)
    → All (λ e. HasOutcome code e.0 e.1) memo → Contains memo e → HasOutcome code e.0 e.1
listed_right code memo e right (k, l, is) =
    subst (λ v. HasOutcome code v.0 v.1) is (right k e l)

-- what follows from outcomes that are right is right
pub follows_right : (code : List ℕ) (memo : List (List ℕ × Outcome)) (X : List ℕ) (o : Outcome)
    → All (λ e. HasOutcome code e.0 e.1) memo → Follows code memo X o → HasOutcome code X o
follows_right code memo X P right ((Y, m), all) =
    AllLose m (λ Z k. let (W, c, s) = all Z k in
    n_shuffled (listed_right code memo (W, N) right c) (from_permutation W Z s))
follows_right code memo X N right (inl none) = Ended none
follows_right code memo X N right (inr (Y, m, (Z, c, s))) =
    ByMove m (p_shuffled (listed_right code memo (Z, P) right c) (from_permutation Z Y s))

-- what follows from a list follows from a longer one
pub follows_on : (code : List ℕ) (memo more : List (List ℕ × Outcome)) (X : List ℕ) (o : Outcome)
    → Follows code memo X o → Follows code (memo ++ more) X o
follows_on code memo more X P (some, all) =
    (some, λ Y m. let (Z, c, s) = all Y m in (Z, Contains-append_left memo more (Z, N) c, s))
follows_on code memo more X N (inl none) = inl none
follows_on code memo more X N (inr (Y, m, (Z, c, s))) =
    inr (Y, m, (Z, Contains-append_left memo more (Z, P) c, s))
