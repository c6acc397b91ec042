-- Words of members, as positions.
-- A word is the last heap of its member and the word of an earlier one; a walk reads it from there.
use Rattle.std.proofs.Common.{◌≡◌, ℕ, zero, suc, ◌^◌, ◌<◌, ◌≤◌, List, [], ◌∷◌, ◌++◌, length, get_or, refl, sym, ap, ◌∙◌, subst, inl, inr, arith, Contains}
use Rattle.std.specs.List.Sorted.{IsNonDecreasing, IsPermutation}
use Rattle.std.proofs.lemmas.List.Sorted.{length_permutation, IsPermutation-refl, IsPermutation-append_left, IsPermutation-middle, IsPermutation-trans}
use Rattle.std.proofs.lemmas.List.{append-nil, length-append}
use Rattle.misere_theory.specs.Games.{IsHeapUpTo, IsPosition}
use Rattle.misere_theory.specs.Quotients.{Claim, Monoid, GivesElements}
use Rattle.misere_theory.specs.Pairs as theory
use Rattle.misere_theory.proofs.Sums.{heaps_up_to_kept, move_kept}
use Rattle.misere_theory.proofs.Shuffles.{Shuffled, back, from_permutation, move_shuffled, position_shuffled, value_shuffled}
use Rattle.positions.specs.Positions.{IsSize}
use Rattle.pair_closure.specs.Chains.{blank}
use Rattle.pair_closure.specs.OverSets.{Member}
use Rattle.pair_closure.specs.OverSets.{Held}
use Rattle.pair_closure.specs.Turns.{State, blank_held}
use Rattle.pair_closure.specs.Positions.{word, as_pair, IsWordOf}
use Rattle.std.proofs.lemmas.List.Elements.{Contains-get_or}
use Rattle.pair_closure.proofs.Theorem as reached
use Rattle.pair_closure.proofs.Machine.{Reached, member_holds, place_in}
use Rattle.pair_closure.proofs.Positions.{shows}
use Rattle.pair_closure.proofs.Rising.{one_rises}

-- the heaps in any order have the same pair
pair_shuffled : (B : ℕ) (code : List ℕ) (c : Claim) (m : Monoid c.order c.times)
    (phi_in : GivesElements (IsHeapUpTo B) c) (p : theory.Pair) (X Y : List ℕ) → IsPosition (IsHeapUpTo B) X
    → Shuffled X Y → theory.IsPairOf code c p X → theory.IsPairOf code c p Y
pair_shuffled B code c m phi_in p X Y inside s e = record {
  same_value = e.same_value ∙ value_shuffled (IsHeapUpTo B) c m phi_in s inside;
  options = λ x. (
    λ h.
        let (Z, i, q) = (e.options x).0 h in
        let (W, j, t) = move_shuffled s i in (
          W,
          j,
          sym (value_shuffled (IsHeapUpTo B) c m phi_in t
              (move_kept (IsHeapUpTo B) code (heaps_up_to_kept B code) i inside)) ∙ q,
        ),
    λ o.
        let (W, j, q) = o in
        let (Z, i, t) = move_shuffled (back s) j in
        (e.options x).1 (
          Z,
          i,
          sym (value_shuffled (IsHeapUpTo B) c m phi_in t
              (move_kept (IsHeapUpTo B) code (heaps_up_to_kept B code) j (position_shuffled (IsHeapUpTo B) s inside))) ∙ q,
        ),
  );
}

word_within : (s : State) → Reached s → (i : ℕ) → i < length s.members
    → IsPosition (IsHeapUpTo (length s.heaps)) (word s i)
word_within s r i l = (reached.word_is s (member_holds s r i l) i i (omega arith) l).0

-- a word is its last heap and the word of the member before
pub record Unfolds (s : State) (at : ℕ) : Type 0 where
  pub is : word s at ≡ (get_or s.members at blank).heap ∷ word s (get_or s.members at blank).parent
  pub earlier : (get_or s.members at blank).parent < at
  pub heap : IsHeapUpTo (length s.heaps) (get_or s.members at blank).heap

pub unfolds : (s : State) → Reached s → (at : ℕ) → 0 < at → at < length s.members → Unfolds s at
unfolds s r zero some l = absurd (omega arith)
unfolds s r (suc k) some l =
    let v = member_holds s r (suc k) l in
    let m = get_or s.members (suc k) blank in
    let step = v.steps (suc k) some l in
    let before = step.earlier in
    record {
      is =
          ap (λ w. m.heap ∷ w)
          (reached.word_bound s v k m.parent m.parent (omega arith) (omega arith) (omega arith));
      earlier = before;
      heap = step.heap;
    }

-- the heaps read so far, and the word of the member that is next
pub record Walking (s : State) (place at : ℕ) (heaps : List ℕ) : Type 0 where
  pub within : at < length s.members
  pub rest : IsPermutation (word s place) (heaps ++ word s at)

pub walk_begins : (s : State) (place : ℕ) (heaps : List ℕ) → place < length s.members → heaps ≡ []
    → Walking s place place heaps
walk_begins s place heaps l e =
    record {
      within = l;
      rest = subst (λ z. IsPermutation (word s place) (z ++ word s place))
          (sym e) (IsPermutation-refl (word s place));
    }

pub walk_goes : (s : State) → Reached s → (place at : ℕ) (heaps more : List ℕ) (m : Member)
    → Walking s place at heaps → 0 < at → m ≡ get_or s.members at blank
    → IsPermutation (m.heap ∷ heaps) more → Walking s place m.parent more
walk_goes s r place at heaps more m w some e p =
    let u = unfolds s r at some w.within in
    let first : word s at ≡ m.heap ∷ word s m.parent =
    u.is ∙ ap (λ z. z.heap ∷ word s z.parent) (sym e) in
    let less : m.parent < at = subst (λ z. z.parent < at) (sym e) u.earlier in
    let inside = w.within in
    record {
      within = omega arith;
      rest =
          IsPermutation-trans _ _ _
          (subst (λ z. IsPermutation (word s place) (heaps ++ z)) first w.rest)
          (IsPermutation-trans _ _ _ (IsPermutation-middle heaps m.heap (word s m.parent))
          (IsPermutation-append_left (word s m.parent) (m.heap ∷ heaps) more p));
    }

pub walk_falls : (s : State) → Reached s → (place at : ℕ) (heaps : List ℕ) (m : Member)
    → Walking s place at heaps → 0 < at → m ≡ get_or s.members at blank → m.parent < at
walk_falls s r place at heaps m w some e =
    subst (λ z. z.parent < at) (sym e) (unfolds s r at some w.within).earlier

pub walk_sizes : (s : State) → Reached s → length s.heaps < 2 ^ 58
    → (place at : ℕ) (heaps : List ℕ) (m : Member) → Walking s place at heaps → 0 < at
    → m ≡ get_or s.members at blank → IsSize m.heap
walk_sizes s r short place at heaps m w some e =
    subst (λ z. IsSize z.heap) (sym e) (let (a, b) = (unfolds s r at some w.within).heap in
    (a, omega arith))

-- while a heap is left to read, fewer are read than the word has
pub walk_room : (s : State) → Reached s → (place at : ℕ) (heaps : List ℕ)
    → Walking s place at heaps → 0 < at → length heaps < length (word s place)
walk_room s r place at heaps w some =
    let more = ap length (unfolds s r at some w.within).is in
    let both = length-append heaps (word s at) in
    let same = length_permutation _ _ w.rest in
    omega arith

pub walk_ends : (s : State) → Reached s → (m : Held) (i : ℕ) (at : ℕ) (heaps : List ℕ)
    → i < length s.held → m ≡ get_or s.held i blank_held → Walking s m.place at heaps → at ≤ 0
    → IsNonDecreasing heaps → IsWordOf s m heaps
walk_ends s r m i at heaps l e w last rise =
    let none : at ≡ 0 = omega arith in
    let same : IsPermutation (word s m.place) heaps =
    subst (IsPermutation (word s m.place)) (append-nil heaps)
    (subst (λ z. IsPermutation (word s m.place) (heaps ++ word s z)) none w.rest) in
    let inside : m.place < length s.members =
    subst (λ z. z.place < length s.members) (sym e) (place_in s r i blank_held l) in
    let shuffled = from_permutation _ _ same in
    record {
      are = one_rises _ _ same rise;
      same = same;
      within =
          position_shuffled (IsHeapUpTo (length s.heaps)) shuffled (word_within s r m.place inside);
      exact = λ code c g.
          let says = shows s r code c g in
          let held =
          says.held m
          (subst (Contains s.held) (sym e) (Contains-get_or s.held i blank_held l)) in
          pair_shuffled (length s.heaps) code c g.monoid g.elements (as_pair m.pair)
          (word s m.place) heaps (says.positions m.place inside) shuffled
          (subst (λ p. theory.IsPairOf code c (as_pair p) (word s m.place)) held.1
          (says.words m.place inside));
    }
