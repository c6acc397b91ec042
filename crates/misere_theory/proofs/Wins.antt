-- The first winning move: there is one wherever some move wins, and whoever answers by it wins.
-- Among the winning moves of a heap one has the least numbers, in the order of the definition.
use Rattle.std.proofs.Common.{◌≡◌, ℕ, zero, suc, ◌-◌, ◌<◌, ◌≤◌, ◌⊎◌, List, [], ◌∷◌, ◌++◌, length, get_or, sum, refl, sym, ap, ap₂, subst, inl, inr, arith, ◌∙◌}
use Rattle.std.proofs.lemmas.List.Sorted.{IsPermutation-refl}
use native.Mathlib.Decide.{dec_lt, ℕ_discrete}
use Rattle.misere_theory.specs.Games.{HeapOption, Move, HeapMove, IsP, IsN}
use Rattle.misere_theory.specs.Games.HeapOption.{Nothing, One, Two, Three}
use Rattle.misere_theory.specs.Games.Move.{Here}
use Rattle.misere_theory.specs.Games.IsN.{Ended, Wins}
use Rattle.misere_theory.specs.Plays.{LeftBefore, IsWinningMove, IsFirstWin, IsHanded, Keeps}
use Rattle.misere_theory.specs.Plays.IsHanded.{AtOnce, Later}
use Rattle.misere_theory.proofs.Basics.{neither_smaller, both_dec, decided}
use Rattle.misere_theory.proofs.Outcomes.{determined, not_both, p_moves, p_leads_to_n, some_or_all_below, some_or_all_options}
use Rattle.misere_theory.proofs.Shuffles.{back, beside, from_permutation, to_permutation, move_shuffled, p_shuffled, one_heap_moves}
use Rattle.misere_theory.proofs.Shuffles.Shuffled.{Then}
use Rattle.misere_theory.proofs.InOrder.{put_in_order, order_dec}
use Rattle.misere_theory.proofs.Lessened.{less_shuffled, less_in_order, less_or_none, moved_once}

-- a move that leads to a P-position makes a winning move
pub winning_from_move : {code X Y : List ℕ} → Move code X Y → IsP code Y → (n : ℕ) × (H : List ℕ)
    × IsWinningMove code X n H
winning_from_move {Y = Y} m p =
    let (n, R, H, s, o, t) = one_heap_moves m in
    let (L, i, ordered, u) = put_in_order o in (
      n,
      L,
      (
        ordered,
        (
          Y,
          record {
            others = R;
            before = to_permutation s;
            allowed = i;
            after = to_permutation (Then t (beside u R));
          },
          p,
        ),
      ),
    )

-- what a winning move leads to is a P-position, however it is ordered
pub winning_leads : {code X : List ℕ} {n : ℕ} {H Z : List ℕ} → IsWinningMove code X n H
    → HeapMove code X n H Z → IsP code Z
winning_leads w m = p_shuffled w.1.2 (moved_once w.1.1 m)

module _ (code X : List ℕ) where
  winning_dec : (n : ℕ) (H : List ℕ) → HeapOption code n H → Dec (IsWinningMove code X n H)
  winning_dec n H o = elim (order_dec o) [
    | no f ↦ no (λ w. f w.0)
    | yes ordered ↦ elim (less_or_none n X) [
      | inr none ↦ no
          (λ w. let (S, i, _) =
          less_in_order (back (from_permutation X (n ∷ w.1.1.others) w.1.1.before)) n w.1.1.others
          (inl (refl, refl)) in none S i)
      | inl (R, l) ↦
          let m : HeapMove code X n H (H ++ R) =
          record {
            others = R;
            before = to_permutation (less_shuffled n X R l);
            allowed = o;
            after = IsPermutation-refl (H ++ R);
          } in
          elim (determined code (H ++ R)) [
            | inl p ↦ yes (ordered, (H ++ R, m, p))
            | inr q ↦ no (λ w. not_both (winning_leads w m) q)
          ]
    ]
  ]

  allowed_of : {n : ℕ} {H : List ℕ} → IsWinningMove code X n H → HeapOption code n H
  allowed_of w = w.1.1.allowed

  -- a winning move with a property that can be tested, or none
  winning_with : (n : ℕ) (T : List ℕ → Type 0) → ((H : List ℕ) → Dec (T H))
      → ((H : List ℕ) × IsWinningMove code X n H × T H)
      ⊎ (((H : List ℕ) × IsWinningMove code X n H × T H) → ⊥)
  winning_with n T test =
      elim (some_or_all_options code n (λ H. IsWinningMove code X n H × T H)
      (λ H. IsWinningMove code X n H × T H → ⊥)
      (λ H o. decided (both_dec (winning_dec n H o) (test H)))) [
        | inl (H, o, (w, t)) ↦ inl (H, w, t)
        | inr none ↦ inr (λ (H, w, t). none H (allowed_of w) (w, t))
      ]

  -- of the winning moves of the heap n with such numbers, one with the least
  least_number : (n : ℕ) (T : List ℕ → Type 0) (test : (H : List ℕ) → Dec (T H))
      (number : List ℕ → ℕ) (t : ℕ) (H : List ℕ)
      → number H < t → IsWinningMove code X n H → T H
      → (L : List ℕ) × IsWinningMove code X n L × T L
      × ((K : List ℕ) → IsWinningMove code X n K → T K → number K < number L → ⊥)
  least_number n T test number zero H l w h = absurd (omega arith)
  least_number n T test number (suc t) H l w h =
      elim (winning_with n (λ K. T K × (number K < number H))
      (λ K. both_dec (test K) (dec_lt (number K) (number H)))) [
        | inl (K, v, (k, less)) ↦ least_number n T test number t K (omega arith) v k
        | inr none ↦ (H, w, h, λ K v k less. none (K, v, (k, less)))
      ]

  -- K comes before L by such numbers: the first of them that differs is the smaller
  abbrev Earlier : List (List ℕ → ℕ) → List ℕ → List ℕ → Type 0
  Earlier [] K L = ⊥
  Earlier (f ∷ fs) K L = (f K < f L) ⊎ ((f K ≡ f L) × Earlier fs K L)

  -- of the winning moves of the heap n with a property one comes first
  least_by : (n : ℕ) (fs : List (List ℕ → ℕ)) (T : List ℕ → Type 0)
      (test : (H : List ℕ) → Dec (T H)) (H : List ℕ) → IsWinningMove code X n H → T H
      → (L : List ℕ) × IsWinningMove code X n L × T L
      × ((K : List ℕ) → IsWinningMove code X n K → T K → Earlier fs K L → ⊥)
  least_by n [] T test H w h = (H, w, h, λ K v k e. e)
  least_by n (f ∷ fs) T test H w h =
      let (A, a, t, least) = least_number n T test f (suc (f H)) H (omega arith) w h in
      let (L, v, (u, same), first) =
      least_by n fs (λ K. T K × (f K ≡ f A))
      (λ K. both_dec (test K) (ℕ_discrete (f K) (f A))) A a (t, refl) in (
        L,
        v,
        u,
        λ K k i before. elim before [
          | inl less ↦ least K k i (omega arith)
          | inr (e, later) ↦ first K k (i, e ∙ same) later
        ],
      )

  option_sum : {n : ℕ} {K : List ℕ} → HeapOption code n K → sum K ≤ n
  option_sum (Nothing j p e b) = omega arith
  option_sum (One j a p q e b) = omega arith
  option_sum (Two j a b p q e s) = omega arith
  option_sum (Three j a b c p q r e s) = omega arith

  -- the first winning move of the heap n, where it has one
  pub first_of_heap : (n : ℕ) (H : List ℕ) → IsWinningMove code X n H
      → (L : List ℕ) × IsWinningMove code X n L
      × ((K : List ℕ) → IsWinningMove code X n K → LeftBefore K L → ⊥)
  first_of_heap n H w =
      let (L, v, _, first) =
      least_by n ((λ K. n - sum K) ∷ length ∷ (λ K. get_or K 0 0) ∷ (λ K. get_or K 1 0) ∷ [])
      (λ K. Unit {0}) (λ K. yes tt) H w tt in (
        L,
        v,
        λ K k before. let s = option_sum (allowed_of k) in first K k tt (elim before [
          | inl more ↦ inl (omega arith)
          | inr (e, more) ↦ inr (
            omega arith,
            elim more [
              | inl shorter ↦ inl shorter
              | inr (f, more) ↦ inr (f, elim more [ inl less ↦ inl less | inr (g, less) ↦ inr (g, inl less) ])
            ],
          )
        ]),
      )

  -- the smallest heap with a winning move, among those up to n
  smallest_heap : (t n : ℕ) (H : List ℕ) → n < t → IsWinningMove code X n H
      → (m : ℕ) × (L : List ℕ) × IsWinningMove code X m L
      × ((i : ℕ) (K : List ℕ) → i < m → IsWinningMove code X i K → ⊥)
  smallest_heap zero n H l w = absurd (omega arith)
  smallest_heap (suc t) n H l w =
      elim (some_or_all_below _ _ (λ i. winning_with i (λ K. Unit {0}) (λ K. yes tt)) n) [
        | inl (i, less, (K, k, _)) ↦ smallest_heap t i K (omega arith) k
        | inr none ↦ (n, H, w, λ i K less k. none i less (K, k, tt))
      ]

  pub first_win_from : (n : ℕ) (H : List ℕ) → IsWinningMove code X n H → (m : ℕ) × (L : List ℕ)
      × IsFirstWin code X m L
  first_win_from n H w =
      let (m, A, a, smallest) = smallest_heap (suc n) n H (omega arith) w in
      let (L, v, first) = first_of_heap m A a in (
        m,
        L,
        (
          v,
          λ i K k before. elim before [
            | inl less ↦ smallest i K less k
            | inr (e, earlier) ↦ first K (subst (λ j. IsWinningMove code X j K) e k) earlier
          ],
        ),
      )

  -- an N-position has no move, or a first winning one
  pub first_win : IsN code X → ((Y : List ℕ) → Move code X Y → ⊥)
      ⊎ ((n : ℕ) × (H : List ℕ) × IsFirstWin code X n H)
  first_win (Ended none) = inl none
  first_win (Wins m p) = let (n, H, w) = winning_from_move m p in inr (first_win_from n H w)

no_four : {code : List ℕ} {n a b c d : ℕ} {H : List ℕ} → HeapOption code n (a ∷ b ∷ c ∷ d ∷ H) → ⊥
no_four o = elim o [ ]

-- what is left of a heap is settled by its sum, its length and its first two parts
same_left : {code : List ℕ} {n : ℕ} (H L : List ℕ) → HeapOption code n H → HeapOption code n L
    → sum H ≡ sum L → length H ≡ length L
    → get_or H 0 0 ≡ get_or L 0 0 → get_or H 1 0 ≡ get_or L 1 0 → H ≡ L
same_left [] [] o i e f g h = refl
same_left (a ∷ []) (b ∷ []) o i e f g h = ap (λ x. x ∷ []) g
same_left (a ∷ b ∷ []) (c ∷ d ∷ []) o i e f g h = ap₂ (λ x y. x ∷ y ∷ []) g h
same_left (a ∷ b ∷ c ∷ []) (x ∷ y ∷ z ∷ []) o i e f g h = let k : c ≡ z = omega arith in
    ap₂ (λ v K. v ∷ K) g (ap₂ (λ v w. v ∷ w ∷ []) h k)
same_left (a ∷ b ∷ c ∷ d ∷ H) L o i e f g h = absurd (no_four o)
same_left H L o i e f g h = absurd (omega arith)

-- there is one first winning move
pub first_win_once : (code X : List ℕ) (n m : ℕ) (H L : List ℕ) → IsFirstWin code X n H
    → IsFirstWin code X m L → (n ≡ m) × (H ≡ L)
first_win_once code X n m H L a b =
    let e : n ≡ m = neither_smaller n m (λ l. b.1 n H a.0 (inl l)) (λ l. a.1 m L b.0 (inl l)) in
    let earlier : LeftBefore H L → ⊥ = λ l. b.1 n H a.0 (inr (e, l)) in
    let later : LeftBefore L H → ⊥ = λ l. a.1 m L b.0 (inr (sym e, l)) in
    let s : sum H ≡ sum L =
    neither_smaller (sum H) (sum L) (λ l. later (inl l)) (λ l. earlier (inl l)) in
    let k : length H ≡ length L =
    neither_smaller (length H) (length L) (λ l. earlier (inr (s, inl l)))
    (λ l. later (inr (sym s, inl l))) in
    let f : get_or H 0 0 ≡ get_or L 0 0 =
    neither_smaller (get_or H 0 0) (get_or L 0 0) (λ l. earlier (inr (s, inr (k, inl l))))
    (λ l. later (inr (sym s, inr (sym k, inl l)))) in
    let g : get_or H 1 0 ≡ get_or L 1 0 =
    neither_smaller (get_or H 1 0) (get_or L 1 0) (λ l. earlier (inr (s, inr (k, inr (f, l)))))
    (λ l. later (inr (sym s, inr (sym k, inr (sym f, l))))) in (
      e,
      same_left H L a.0.1.1.allowed (subst (λ i. HeapOption code i L) (sym e) b.0.1.1.allowed) s k
          f g,
    )

-- where a move wins the position is no P-position
pub wins_at_n : (code X : List ℕ) (n : ℕ) (H : List ℕ) → IsWinningMove code X n H → IsN code X
wins_at_n code X n H w =
    let (Y, m, s) =
    move_shuffled (back (from_permutation X (n ∷ w.1.1.others) w.1.1.before))
    (Here w.1.1.allowed refl) in
    Wins m (p_shuffled w.1.2 (Then (from_permutation w.1.0 (H ++ w.1.1.others) w.1.1.after) s))

-- what is handed over in a play from a P-position is a P-position
pub handed_p : {code X Z : List ℕ} → IsHanded code X Z → IsP code X → IsP code Z
handed_p AtOnce p = p
handed_p (Later h m a) p = winning_leads a.2.0 a.3

pub p_keeps : (code X : List ℕ) → IsP code X → Keeps code X
p_keeps code X p = record {
  handed = λ Z h. handed_p h p;
  goes_on = λ Z h. p_moves (handed_p h p);
  answered = λ Z Y h m. elim (first_win code Y (p_leads_to_n (handed_p h p) Y m)) [
    | inl none ↦ inl none
    | inr (n, H, w) ↦ inr (w.0.1.0, (n, H, w, w.0.1.1))
  ];
}
