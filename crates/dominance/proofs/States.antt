-- Each position has a kept state.
-- By induction on its heaps: a heap more, and a kept state of both together.
use Rattle.std.proofs.Common.{◌≡◌, ℕ, ◌+◌, ◌≤◌, ◌⊎◌, Bool, true, false, ◌||◌, List, [], ◌∷◌, ◌++◌, refl, sym, ◌∙◌, ap, ap₂, inl, inr, arith, Contains}
use Rattle.std.specs.List.{AllByRecursion}
use Rattle.std.proofs.lemmas.Bool.{true≢false}
use Rattle.std.proofs.lemmas.Bool.Decides.{nat_tests}
use Rattle.misere_theory.specs.Games.{HeapOption, Move, IsPosition, IsHeap}
use Rattle.misere_theory.specs.Games.Move.{Here, There}
use Rattle.misere_theory.proofs.Sums.{first_or_rest, no_move_of_none}
use Rattle.misere_theory.proofs.Shuffles.{Shuffled, back, to_front, move_shuffled}
use Rattle.misere_theory.proofs.Shuffles.Shuffled.{Same, Under, Flip, Then}
use Rattle.dominance.specs.Triples.{Triple, xor, IsElement, triple_of}
use Rattle.dominance.specs.Tested.{Change, State, size_of, empty_state, together, IsWithin, IsHeapChange, IsStateOf, AreClosed}
use Rattle.dominance.proofs.Triples.{xor_comm, xor_assoc}
use Rattle.dominance.proofs.Positions.{triple-append}
use Rattle.dominance.proofs.Leaders.{below_weight}

size_added : (v w : ℕ) → size_of (size_of v + size_of w) ≡ size_of (v + w)
size_added v w = grind (arith, nat_tests)

neither : (a b : Bool) → a || b ≡ false → (a ≡ false) × (b ≡ false)
neither true b e = absurd (true≢false e)
neither false b e = (refl, e)

either : (a b : Bool) → a || b ≡ true → (a ≡ true) ⊎ (b ≡ true)
either true b e = inl refl
either false b e = inr e

swapped : (a b : ℕ) → a + b ≡ b + a
swapped a b = omega arith

module _ (code : List ℕ) (listed : List ℕ → Bool) (label : ℕ → Triple)
    (elements : (n : ℕ) → IsHeap n → IsElement (label n)) where
  -- Of some heap of X a listed option is left, which makes Y, the heaps of both in any order.
  abbrev pub IsListedMove : List ℕ → List ℕ → Type 0
  IsListedMove X Y =
      (n : ℕ) × (R : List ℕ) × (H : List ℕ) × Shuffled X (n ∷ R) × HeapOption code n H × (listed H ≡ true)
      × Shuffled Y (H ++ R)

  pub listed_beside : (a : ℕ) (X Y : List ℕ) → IsListedMove X Y → IsListedMove (a ∷ X) (a ∷ Y)
  listed_beside a X Y (n, R, H, s, o, l, t) =
      (n, a ∷ R, H, Then (Under s) Flip, o, l, Then (Under t) (back (to_front H a R)))

  pub move_of : (X Y : List ℕ) → IsListedMove X Y → (Z : List ℕ) × Move code X Z × Shuffled Y Z
  move_of X Y (n, R, H, s, o, l, t) =
      let (Z, m, u) = move_shuffled (back s) (Here o refl) in (Z, m, Then t u)

  -- Such a move makes this change, and the lead that it leaves is at most the weight of the heaviest heap.
  abbrev pub IsChange : List ℕ → Change → Type 0
  IsChange X x =
      (Y : List ℕ) × IsListedMove X Y
      × ((triple_of label Y).odd ≡ xor x.0 (triple_of label X).odd)
      × ((triple_of label Y).weight + x.1 ≡ (triple_of label X).weight)
      × ((b : ℕ) → AllByRecursion (λ m. (label m).weight ≤ b) X → (triple_of label Y).lead ≤ b)

  pub record HasState (X : List ℕ) (k : State) : Type 0 where
    pub same_odd : k.odd ≡ (triple_of label X).odd
    pub same_size : k.size ≡ size_of (triple_of label X).weight
    pub moves : k.alive ≡ true → (Y : List ℕ) × Move code X Y
    pub ended : k.alive ≡ false → (Y : List ℕ) → Move code X Y → ⊥
    pub changes : (x : Change) → k.changes x ≡ true → IsChange X x

  within_state : (X : List ℕ) (k h : State) → IsWithin k h → HasState X h → HasState X k
  within_state X k h w s = record {
    same_odd = w.same_odd ∙ s.same_odd;
    same_size = w.same_size ∙ s.same_size;
    moves = λ e. s.moves (sym w.same_alive ∙ e);
    ended = λ e. s.ended (sym w.same_alive ∙ e);
    changes = λ x i. s.changes x (w.fewer x i);
  }

  change_beside : (n : ℕ) (X : List ℕ) (x : Change) → IsHeap n → IsChange X x → IsChange (n ∷ X) x
  change_beside n X x is_heap (Y, m, odd, weight, lead) = (
    n ∷ Y,
    listed_beside n X Y m,
    ap (xor (label n).odd) odd
        ∙ sym (xor_assoc (label n).odd x.0 (triple_of label X).odd)
        ∙ ap (λ b. xor b (triple_of label X).odd) (xor_comm (label n).odd x.0)
        ∙ xor_assoc x.0 (label n).odd (triple_of label X).odd,
    omega arith,
    λ b all. let l = lead b all.1 in let h = all.0 in
        elim (elements n is_heap) [ inl e ↦ omega arith | inr e ↦ omega arith ],
  )

  change_of_heap : (n : ℕ) (X : List ℕ) (x : Change) → IsHeap n → IsPosition IsHeap X
      → IsHeapChange code listed label n x → IsChange (n ∷ X) x
  change_of_heap n X x h p (H, o, l, odd, weight, lead) =
      let e = triple-append label H X in (
        H ++ X,
        (n, X, H, Same, o, l, Same),
        ap (λ u. u.odd) e ∙ ap (λ b. xor b (triple_of label X).odd) odd
            ∙ xor_assoc x.0 (label n).odd (triple_of label X).odd,
        let f = ap (λ u. u.weight) e in omega arith,
        λ b all.
            let f = ap (λ u. u.lead) e in
            let l = below_weight label elements b X p all.1 in
            let g = all.0 in
            omega arith,
      )

  state_beside : (n : ℕ) (X : List ℕ) (k h : State) → IsHeap n → IsPosition IsHeap X → HasState X k
      → IsStateOf code listed label n h → HasState (n ∷ X) (together k h)
  state_beside n X k h is_heap p s t = record {
    same_odd = ap₂ xor s.same_odd t.same_odd ∙ xor_comm (triple_of label X).odd (label n).odd;
    same_size =
        ap₂ (λ a b. size_of (a + b)) s.same_size t.same_size
        ∙ size_added (triple_of label X).weight (label n).weight
        ∙ ap size_of (swapped (triple_of label X).weight (label n).weight);
    moves = λ e. elim (either k.alive h.alive e) [
      | inl a ↦ let (Y, m) = s.moves a in (n ∷ Y, There m refl)
      | inr a ↦ let (H, o) = t.moves a in (H ++ X, Here o refl)
    ];
    ended = λ e Y m. let (a, b) = neither k.alive h.alive e in elim (first_or_rest m) [
      | inl (H, o, _) ↦ t.ended b H o
      | inr (Z, i, _) ↦ s.ended a Z i
    ];
    changes = λ x i. elim (either (k.changes x) (h.changes x) i) [
      | inl j ↦ change_beside n X x is_heap (s.changes x j)
      | inr j ↦ change_of_heap n X x is_heap p (t.changes x j)
    ];
  }

  nothing_has : HasState [] empty_state
  nothing_has = record {
    same_odd = refl;
    same_size = refl;
    moves = λ e. absurd (true≢false (sym e));
    ended = λ e Y m. no_move_of_none m;
    changes = λ x i. absurd (true≢false (sym i));
  }

  pub kept_state : (kinds kept : List State) → AreClosed kinds kept
      → ((n : ℕ) → IsHeap n → (h : State) × Contains kinds h × IsStateOf code listed label n h)
      → (X : List ℕ) → IsPosition IsHeap X → (k : State) × Contains kept k × HasState X k
  kept_state kinds kept closed kinds_of [] p =
      let (k, i, w) = closed.start in (k, i, within_state [] k empty_state w nothing_has)
  kept_state kinds kept closed kinds_of (n ∷ X) p =
      let (k, i, s) = kept_state kinds kept closed kinds_of X p.1 in
      let (h, j, t) = kinds_of n p.0 in
      let (g, l, w) = closed.step k h i j in
      (g, l, within_state (n ∷ X) g (together k h) w (state_beside n X k h p.0 p.1 s t))
