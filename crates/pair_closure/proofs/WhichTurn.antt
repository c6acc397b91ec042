-- Which turn is next, and what it makes of a state.
-- By the tests of a turn, in their order: room, the first member, a pending product, a heap.
use Rattle.std.proofs.Common.{◌≡◌, ℕ, ◌+◌, ◌<◌, ◌≤◌, Bool, true, false, cond, not, List, length, get_or, set, refl, sym, ap, ◌∙◌, subst, arith, nat_lt, lt-ltb, le-ltb, ltb-true, ltb-false}
use Rattle.std.proofs.lemmas.Bool.{cond_both, or_left, or_right}
use Rattle.std.proofs.lemmas.List.Sums.{passes_at_first, fails_before_first}
use Rattle.transition_algebra.specs.OverSets.{Pair}
use Rattle.transition_algebra.specs.Pairs.{one, times}
use Rattle.pair_closure.specs.Turns.{State, KeepsEmpty, Multiplies, TriesHeap, blank_held, blank_generator, members_with, held_with, generators_with, multiplied, first_pending, pending, is_over, is_done, has_ended, empty_turn, product_turn, heap_turn, turn}
use Rattle.pair_closure.specs.OverSets.{Held}
use Rattle.pair_closure.proofs.Lists.{not_both}

-- x is a member more, and what it covers is given up
abbrev pub kept_with : State → Pair → ℕ → ℕ → State
kept_with s x parent heap =
    record s {
      members = members_with s.members x parent heap;
      held = held_with s.held x (length s.members) 0;
    }

-- the product that a turn makes
abbrev pub product_at : State → ℕ → Pair
product_at s at =
    let m = get_or s.held at blank_held in
    times s.table m.pair (get_or s.generators m.by blank_generator).pair

-- the state after a product that is covered
abbrev pub bumped : State → ℕ → State
bumped s at = record s { held = set s.held at (multiplied (get_or s.held at blank_held)) }

-- the state after a product that is covered, or not
abbrev pub product_if : State → ℕ → Bool → State
product_if s at b =
    let m = get_or s.held at blank_held in
    let x = product_at s at in
    record s {
      members =
          cond b s.members
          (members_with s.members x m.place (get_or s.generators m.by blank_generator).heap);
      held =
          cond b (set s.held at (multiplied m))
          (held_with (set s.held at (multiplied m)) x (length s.members) 0);
    }

-- the state after a heap that is covered
abbrev pub passed : State → State
passed s = record s { next = s.next + 1 }

-- the state before a heap that is not covered is kept
abbrev pub widened : State → State
widened s =
    record s {
      generators = generators_with s.generators (get_or s.heaps s.next one) (s.next + 1);
      next = s.next + 1;
    }

-- the state after a heap that is covered, or not
abbrev pub heap_if : State → Bool → State
heap_if s b =
    let x = get_or s.heaps s.next one in
    record s {
      members = cond b s.members (members_with s.members x 0 (s.next + 1));
      held = cond b s.held (held_with s.held x (length s.members) 0);
      generators = cond b s.generators (generators_with s.generators x (s.next + 1));
      next = s.next + 1;
    }

-- ---- the turn of each kind

pub turn_empty : (s : State) → KeepsEmpty s → turn s ≡ empty_turn s
turn_empty s k = let none = k.none in
    rw (le-ltb _ _ k.room, le-ltb 0 (length s.members) (omega arith)) refl

pub turn_product : (s : State) (at : ℕ) → Multiplies s at → turn s ≡ product_turn s at
turn_product s at k =
    rw (le-ltb _ _ k.room, lt-ltb _ _ k.some, lt-ltb _ _ (rw k.first at k.within))
    (ap (product_turn s) (sym k.first))

pub turn_heap : (s : State) → TriesHeap s → turn s ≡ heap_turn s
turn_heap s k =
    rw (le-ltb _ _ k.room, lt-ltb _ _ k.some, le-ltb _ _ k.all, lt-ltb _ _ k.more) refl

-- ---- a turn is left

pub goes_empty : (s : State) → KeepsEmpty s → has_ended s ≡ false
goes_empty s k = let none = k.none in
    rw (le-ltb _ _ k.room, le-ltb 0 (length s.members) (omega arith)) refl

pub goes_product : (s : State) (at : ℕ) → Multiplies s at → has_ended s ≡ false
goes_product s at k =
    rw (le-ltb _ _ k.room, lt-ltb _ _ k.some, lt-ltb _ _ (rw k.first at k.within)) refl

pub goes_heap : (s : State) → TriesHeap s → has_ended s ≡ false
goes_heap s k =
    rw (le-ltb _ _ k.room, lt-ltb _ _ k.some, le-ltb _ _ k.all, lt-ltb _ _ k.more) refl

pub has_turns : (held : List Held) (n i : ℕ) (d : Held) → i ≡ first_pending held n → i < length held
    → (get_or held i d).by < n
has_turns held n i d e l =
    ltb-true _ _ (rw e (passes_at_first (λ m. nat_lt m.by n) held d (rw e at l)))

pub none_before : (held : List Held) (n k : ℕ) (d : Held) → k < first_pending held n
    → n ≤ (get_or held k d).by
none_before held n k d l = ltb-false _ _ (fails_before_first (λ m. nat_lt m.by n) held k d l)

-- what holds of a state that has ended, and of what each kind of turn makes of it, holds of its turn
pub by_turn : (P : State → Type 0) (s : State) → (has_ended s ≡ true → P s)
    → (KeepsEmpty s → P (empty_turn s)) → ((at : ℕ) → Multiplies s at → P (product_turn s at))
    → (TriesHeap s → P (heap_turn s)) → P (turn s)
by_turn P s ended empty product heap =
    cond_both (is_over s) _ _ P (λ over. ended (or_left _ _ over)) (λ room.
    cond_both (nat_lt 0 (length s.members)) _ _ P
    (λ some. cond_both (nat_lt (pending s) (length s.held)) _ _ P
    (λ more. product (pending s) (record {
      room = ltb-false _ _ room;
      some = ltb-true _ _ some;
      first = refl;
      within = ltb-true _ _ more;
    }))
    (λ none. cond_both (nat_lt s.next (length s.heaps)) _ _ P
    (λ more. heap (record {
      room = ltb-false _ _ room;
      some = ltb-true _ _ some;
      all = ltb-false _ _ none;
      more = ltb-true _ _ more;
    }))
    (λ last. ended (or_right (is_over s) (is_done s) (rw (room, some, none, last) refl)))))
    (λ none. let no = ltb-false _ _ none in
    empty (record { room = ltb-false _ _ room; none = omega arith })))

-- ---- no turn is left

-- no member is pending, and no heap is left
pub done_parts : (s : State) → is_done s ≡ true → (nat_lt (pending s) (length s.held) ≡ false)
    × (nat_lt s.next (length s.heaps) ≡ false)
done_parts s e = parts (is_over s) (nat_lt 0 (length s.members)) _ _ e
  where
    parts : (over some more next : Bool)
        → cond over false (cond some (cond more false (not next)) false) ≡ true
        → (more ≡ false) × (next ≡ false)
    parts true some more next e = absurd (cc)
    parts false false more next e = absurd (cc)
    parts false true true next e = absurd (cc)
    parts false true false true e = absurd (cc)
    parts false true false false e = (refl, refl)

pub stays_put : (s : State) → has_ended s ≡ true → turn s ≡ s
stays_put s e =
    by_turn (λ t. t ≡ s) s (λ _. refl) (λ k. absurd (not_both e (goes_empty s k)))
    (λ at k. absurd (not_both e (goes_product s at k))) (λ k. absurd (not_both e (goes_heap s k)))
