-- Winning moves among the options that are tried.
use Rattle.std.proofs.Common.{◌≡◌, ℕ, ◌+◌, ◌-◌, ◌<◌, ◌≤◌, inl, inr, List, [], ◌∷◌, ◌++◌, length, get_or, sym, ◌∙◌, subst, arith}
use Rattle.std.specs.List.{Contains, AllPairs, remove}
use Rattle.std.specs.List.Sorted.{IsNonDecreasing}
use Rattle.std.proofs.lemmas.List.Elements.{All-from_recursion, Contains-append_left, Contains-append_right, Contains-append_cases}
use Rattle.std.proofs.lemmas.List.Sorted.{IsPermutation-refl, IsPermutation-sym, IsPermutation-remove, Contains-permutation}
use Rattle.std.proofs.lemmas.List.{get_or_default}
use native.Mathlib.Decide.{dec_lt}
use Rattle.misere_theory.specs.Games.{HeapOption, HeapMove, IsPosition, IsP}
use Rattle.misere_theory.specs.Parts.{IsPart}
use Rattle.misere_theory.specs.Plays.{LeftBefore}
use Rattle.misere_theory.proofs.ListLaws.{only_in, itself_in}
use Rattle.misere_theory.proofs.Wins.{winning_leads}
use Rattle.heap_options.specs.Options.{options_up_to}
use Rattle.heap_options.specs.Exact.{heaps_of}
use Rattle.heap_options.specs.declared.left.Left.{Left}
use Rattle.heap_options.proofs.OptionLaws.{only, cut}
use Rattle.heap_options.proofs.Rising.{Before, rising}
use Rattle.player.specs.Wins.{IsTriedWin, IsFirstTried, NoneWinsBelow}
use Rattle.player.proofs.Order.{before_trans, not_before_itself, cut_before, small_in, in_order, up_to_small}

-- the heap that a move moves stands somewhere
pub heap_of : (code X : List ℕ) (m : ℕ) (H Y : List ℕ) → HeapMove code X m H Y
    → (k : ℕ) × (k < length X) × (get_or X k 0 ≡ m)
heap_of code X m H Y move =
    let front : Contains (m ∷ move.others) m =
    Contains-append_left (m ∷ []) move.others m (itself_in m) in
    let (k, l, e) : Contains X m =
    Contains-permutation (m ∷ move.others) X m
    (IsPermutation-sym X (m ∷ move.others) move.before) front in
    (k, l, get_or_default X k 0 m l ∙ e)

-- one element more that fails
pub seen_more : (T : Left → Type 0) (seen : List Left) (L : Left) → (T L → ⊥)
    → ((M : Left) → Contains seen M → T M → ⊥)
    → (M : Left) → Contains (seen ++ (L ∷ [])) M → T M → ⊥
seen_more T seen L here before M i t = elim (Contains-append_cases seen (L ∷ []) M i) [
  | inl k ↦ before M k t
  | inr k ↦ here (subst T (sym (only_in L M k)) t)
]

module _ (code : List ℕ) (most : ℕ → ℕ) (X : List ℕ) where
  -- where no heap has a winning move that is tried, there is none
  pub none_at_all : (i : ℕ) → length X ≤ i → NoneWinsBelow code most X i → (n : ℕ) (H : List ℕ)
      → IsTriedWin code most X n H → ⊥
  none_at_all i past none n H w =
      let (k, l, e) = heap_of code X n H w.0.1.0 w.0.1.1 in
      none k (omega arith) H (subst (λ v. IsTriedWin code most X v H) (sym e) w)

  -- where the last heap is as large as one that was tried, all between are
  pub none_of_equal : IsNonDecreasing X → (from to : ℕ) → 0 < from → from < to → to ≤ length X
      → get_or X (from - 1) 0 ≡ get_or X (to - 1) 0 → NoneWinsBelow code most X from
      → NoneWinsBelow code most X to
  none_of_equal rises from to some up within same none k l H w = elim (dec_lt k from) [
    | yes a ↦ none k a H w
    | no a ↦
        let low = rises (from - 1) k 0 (omega arith) (omega arith) in
        let high = rises k (to - 1) 0 (omega arith) (omega arith) in
        let e : get_or X k 0 ≡ get_or X (from - 1) 0 = omega arith in
        none (from - 1) (omega arith) H (subst (λ v. IsTriedWin code most X v H) e w)
  ]

  module _ (i : ℕ) (there : i < length X) where
    abbrev n : ℕ
    n = get_or X i 0

    abbrev tried : List Left
    tried = options_up_to code n (most n)

    in_tried : (seen rest : List Left) (L : Left) → seen ++ (L ∷ rest) ≡ tried → Contains tried L
    in_tried seen rest L e =
        subst (λ xs. Contains xs L) e (Contains-append_right seen (L ∷ rest) L
        (Contains-append_left (L ∷ []) rest L (itself_in L)))

    -- what is left of the heap is of the same game
    pub parts_are_heaps : (heap : ℕ → Type 0) → IsPart heap code → IsPosition heap X → (seen rest : List Left)
        (L : Left) → seen ++ (L ∷ rest) ≡ tried → IsPosition heap (heaps_of L)
    parts_are_heaps heap part position seen rest L e =
        part n (heaps_of L) (All-from_recursion heap X position i 0 there)
        (only code n (most n) L (in_tried seen rest L e)).0

    -- the position that is made if this is left of the heap
    abbrev made : List ℕ → List ℕ
    made H = H ++ remove X i

    move_to : (H : List ℕ) → HeapOption code n H → HeapMove code X n H (made H)
    move_to H o =
        record {
          others = remove X i;
          before = IsPermutation-remove X i n there (get_or_default X i 0 n there);
          allowed = o;
          after = IsPermutation-refl (made H);
        }

    -- a winning move that is tried is among what is listed
    listed : (H : List ℕ) → IsTriedWin code most X n H
        → (L : Left) × Contains tried L × (heaps_of L ≡ H) × IsP code (made (heaps_of L))
    listed H w =
        let o = w.0.1.1.allowed in
        let (L, k, e) = small_in code n (most n) H o w.1 in
        (L, k, e, subst (λ v. IsP code (made v)) (sym e) (winning_leads w.0 (move_to H o)))

    wins_by : (L : Left) → Contains tried L → IsP code (made (heaps_of L))
        → IsTriedWin code most X n (heaps_of L)
    wins_by L k p =
        let o = only code n (most n) L k in (
          (in_order L o.1, (made (heaps_of L), move_to (heaps_of L) o.0, p)),
          up_to_small (most n) L o.1 ((cut code n (most n) L).0 k).1,
        )

    -- the first that makes a P-position is the first winning move that is tried, if no smaller heap has one
    pub first_of_all : IsNonDecreasing X → NoneWinsBelow code most X i → (seen rest : List Left) (L : Left)
        → seen ++ (L ∷ rest) ≡ tried
        → ((M : Left) → Contains seen M → IsP code (made (heaps_of M)) → ⊥)
        → IsP code (made (heaps_of L)) → IsFirstTried code most X n (heaps_of L)
    first_of_all rises none seen rest L e fails p = (
      wins_by L (in_tried seen rest L e) p,
      λ m K w before. elim before [
        | inl less ↦
            let (k, l, f) = heap_of code X m K w.0.1.0 w.0.1.1 in
            elim (dec_lt k i) [
              | yes a ↦ none k a K (subst (λ v. IsTriedWin code most X v K) (sym f) w)
              | no a ↦ absurd (let up = rises i k 0 (omega arith) l in omega arith)
            ]
        | inr at_once ↦
            let (S, j, same, q) = listed K (subst (λ v. IsTriedWin code most X v K) at_once.0 w) in
            let earlier : LeftBefore (heaps_of S) (heaps_of L) =
            subst (λ u. LeftBefore u (heaps_of L)) (sym same) at_once.1 in
            elim (Contains-append_cases seen (L ∷ rest) S (subst (λ xs. Contains xs S) (sym e) j)) [
              | inl k ↦ fails S k q
              | inr k ↦ elim (Contains-append_cases (L ∷ []) rest S k) [
                | inl h ↦ not_before_itself (heaps_of L)
                    (subst (λ u. LeftBefore (heaps_of u) (heaps_of L)) (sym (only_in L S h)) earlier)
                | inr h ↦
                    let after =
                    cut_before Before seen rest L S
                    (subst (AllPairs Before) (sym e) (rising code n (most n))) h in
                    not_before_itself (heaps_of L)
                    (before_trans (heaps_of L) (heaps_of S) (heaps_of L) after earlier)
              ]
            ]
      ],
    )

    -- a heap more without a winning move that is tried
    pub none_more : NoneWinsBelow code most X i → (seen rest : List Left) → seen ++ rest ≡ tried → rest ≡ []
        → ((M : Left) → Contains seen M → IsP code (made (heaps_of M)) → ⊥)
        → NoneWinsBelow code most X (i + 1)
    none_more none seen rest e ended fails k l H w = elim (dec_lt k i) [
      | yes a ↦ none k a H w
      | no a ↦
          let f : k ≡ i = omega arith in
          let (S, j, same, q) = listed H (subst (λ v. IsTriedWin code most X (get_or X v 0) H) f w) in
          elim (Contains-append_cases seen rest S (subst (λ xs. Contains xs S) (sym e) j)) [
            | inl h ↦ fails S h q
            | inr h ↦
                let (d, below, is) = subst (λ xs. Contains xs S) ended h in
                absurd (omega arith)
          ]
    ]
