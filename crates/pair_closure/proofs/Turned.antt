-- What each kind of turn reads, and what it leaves.
-- The empty position, a product and a heap, one after another.
use Rattle.std.proofs.Common.{◌≡◌, ℕ, ◌+◌, ◌<◌, ◌≤◌, Bool, true, false, cond, List, [], ◌∷◌, length, get_or, set, refl, sym, ap, ap₂, ◌∙◌, subst, inl, inr, arith}
use Rattle.std.proofs.lemmas.Bool.{cond-true, cond-false}
use Rattle.std.proofs.lemmas.List.{get_or_default, length-append}
use Rattle.transition_algebra.specs.OverSets.{Pair}
use Rattle.transition_algebra.specs.Pairs.{IsPair, one, times}
use Rattle.pair_closure.specs.OverSets.{Member}
use Rattle.pair_closure.specs.OverSets.{Held}
use Rattle.pair_closure.specs.OverSets.{Generator}
use Rattle.pair_closure.specs.Turns.{State, KeepsNext, turn, covered, members_with, held_with, members_after, held_after, generators_with, multiplied, blank_held, blank_generator, NoneBefore, KeepsEmpty, Multiplies, TriesHeap}
use Rattle.pair_closure.specs.ClosureViews.{ClosureView, IsRun}
use Rattle.pair_closure.proofs.WhichTurn.{turn_empty, turn_product, turn_heap, goes_empty, goes_product, goes_heap, has_turns, none_before}
use Rattle.pair_closure.proofs.Machine.{Reached, of_run, held_in, generator_in, kept_by_turns}
use Rattle.pair_closure.proofs.Runs.{next_run}

-- the state with other lists
abbrev pub with : State → List Member → List Held → List Generator → ℕ → State
with s members held gens next =
    record s { members = members; held = held; generators = gens; next = next }

-- what a turn leaves: a run, and where to look next
abbrev pub Next : ClosureView → List Member → List Held → List Generator → ℕ → ℕ → ℕ → Type 0
Next p members held gens next spent from =
    IsRun (record { state = with p.state members held gens next; spent = spent; failed = p.failed })
    × NoneBefore held (length gens) from

pub read_by : (s : State) (at : ℕ) (m : Held) → Multiplies s at → m ≡ get_or s.held at m
    → m.by < length s.generators
read_by s at m k e =
    subst (λ z. z.by < length s.generators) (sym e)
    (has_turns s.held (length s.generators) at m k.first k.within)

pub read_held : (s : State) (at : ℕ) (m : Held) → Reached s → Multiplies s at
    → m ≡ get_or s.held at m → IsPair s.table.order m.pair
read_held s at m r k e =
    subst (λ z. IsPair s.table.order z.pair) (sym e) (held_in s r at m k.within)

pub read_generator : (s : State) (i : ℕ) (g : Generator) → Reached s → i < length s.generators
    → g ≡ get_or s.generators i g → IsPair s.table.order g.pair
read_generator s i g r l e =
    subst (λ z. IsPair s.table.order z.pair) (sym e) (generator_in s r i g l)

-- a state with no members has nothing at all
nothing : (s : State) → Reached s → KeepsEmpty s → (s.generators ≡ [])
nothing s r k = elim (kept_by_turns s r) [
  | inl e ↦ ap (λ z. z.generators) e
  | inr v ↦ let none = k.none in let some = v.first.0 in absurd (omega arith)
]

pub empty_turned : (p : ClosureView) (members : List Member) (held : List Held) → KeepsEmpty p.state
    → members ≡ members_with p.state.members one 0 0
    → held ≡ held_with p.state.held one 0 (length p.state.heaps)
    → with p.state members held p.state.generators p.state.next ≡ turn p.state
empty_turned p members held k a b =
    ap₂ (λ e h. with p.state e h p.state.generators p.state.next) a b ∙ sym (turn_empty p.state k)

pub empty_next : (p : ClosureView) (members : List Member) (held : List Held) (from : ℕ) → IsRun p
    → KeepsEmpty p.state → members ≡ members_with p.state.members one 0 0
    → held ≡ held_with p.state.held one 0 (length p.state.heaps)
    → Next p members held p.state.generators p.state.next (p.spent + 1) from
empty_next p members held from r k a b =
    let none : length p.state.generators ≡ 0 = ap length (nothing p.state (of_run p r) k) in (
      next_run p _ r (goes_empty p.state k) (empty_turned p members held k a b),
      λ i l h.
          omega arith,
    )

-- the first turn keeps a member
pub empty_keeps : (s : State) → KeepsEmpty s → KeepsNext s
empty_keeps s k =
    let kept = ap (λ z. length z.members) (turn_empty s k) in
    let more = length-append s.members (record { pair = one; parent = 0; heap = 0 } ∷ []) in
    omega arith

-- x is a member more where none that is held covers it
more_members : (s : State) (x : Pair) (parent heap : ℕ) → covered s.held x ≡ false
    → (turn s).members ≡ members_after s.members s.held x parent heap → KeepsNext s
more_members s x parent heap none e =
    let kept =
    ap length (e ∙ cond-false (covered s.held x) s.members (members_with s.members x parent heap) none)
    in
    let more = length-append s.members (record { pair = x; parent = parent; heap = heap } ∷ []) in
    omega arith

-- what a product's turn was given and what it wrote
pub record Product (s : State) (members : List Member) (held : List Held) (at : ℕ) (m : Held)
    (g : Generator) (x : Pair) : Type 0 where
  pub turns : Multiplies s at
  pub member : m ≡ get_or s.held at m
  pub generator : g ≡ get_or s.generators m.by g
  pub product : x ≡ times s.table m.pair g.pair
  pub members_are : members ≡ members_after s.members s.held x m.place g.heap
  pub held_are : held ≡ held_after s.held (set s.held at (multiplied m)) x (length s.members)

pub product_turned : (s : State) (members : List Member) (held : List Held) (at : ℕ) (m : Held)
    (g : Generator) (x : Pair) → Product s members held at m g x
    → with s members held s.generators s.next ≡ turn s
product_turned s members held at m g x w =
    let k = w.turns in
    let same_member = w.member ∙ get_or_default s.held at m blank_held k.within in
    let same_generator =
    w.generator ∙ get_or_default s.generators m.by g blank_generator (read_by s at m k w.member) in
    cc (w.members_are, w.held_are, w.product, same_generator, same_member, turn_product s at k)

-- a product that none held covers is kept
pub product_keeps : (s : State) (at : ℕ) (m : Held) (g : Generator) (x : Pair) → Multiplies s at
    → m ≡ get_or s.held at m → g ≡ get_or s.generators m.by g → x ≡ times s.table m.pair g.pair
    → covered s.held x ≡ false → KeepsNext s
product_keeps s at m g x k a b p e =
    more_members s x m.place g.heap e
    (sym (ap (λ z. z.members)
    (product_turned s _ (held_after s.held (set s.held at (multiplied m)) x (length s.members)) at m
    g x
    (record {
      turns = k;
      member = a;
      generator = b;
      product = p;
      members_are = refl;
      held_are = refl;
    }))))

pub product_next : (p : ClosureView) (members : List Member) (held : List Held) (at : ℕ) (m : Held)
    (g : Generator) (x : Pair) (anew : Bool) (from : ℕ) → IsRun p
    → Product p.state members held at m g x
    → (anew ≡ false → (k : ℕ) → k < at
    → get_or held k blank_held ≡ get_or p.state.held k blank_held) → from ≡ cond anew 0 at
    → Next p members held p.state.generators p.state.next (p.spent + 1) from
product_next p members held at m g x anew from r w before e = (
  next_run p _ r (goes_product p.state at w.turns)
      (product_turned p.state members held at m g x w),
  none anew before e,
)
  where
    none : (b : Bool)
        → (b ≡ false → (k : ℕ) → k < at
        → get_or held k blank_held ≡ get_or p.state.held k blank_held) → from ≡ cond b 0 at
        → NoneBefore held (length p.state.generators) from
    none true h e k l1 l2 = absurd (omega arith)
    none false h e k l1 l2 = let first = w.turns.first in
        rw (h refl k (omega arith))
        (none_before p.state.held (length p.state.generators) k blank_held (omega arith))

-- what a heap's turn was given and what it wrote
pub record Tried (s : State) (members : List Member) (held : List Held) (gens : List Generator)
    (n : ℕ) (x : Pair) : Type 0 where
  pub turns : TriesHeap s
  pub heap : x ≡ get_or s.heaps s.next x
  pub number : n ≡ s.next + 1
  pub members_are : members ≡ members_after s.members s.held x 0 n
  pub held_are : held ≡ held_after s.held s.held x (length s.members)
  pub generators_are : gens ≡ cond (covered s.held x) s.generators
      (generators_with s.generators x n)

pub heap_turned : (s : State) (members : List Member) (held : List Held) (gens : List Generator)
    (n : ℕ) (x : Pair) → Tried s members held gens n x → with s members held gens n ≡ turn s
heap_turned s members held gens n x w =
    let k = w.turns in
    let same = w.heap ∙ get_or_default s.heaps s.next x one k.more in
    cc (w.members_are, w.held_are, w.generators_are, same, w.number, turn_heap s k)

-- a heap's pair that none held covers is kept
pub heap_keeps : (s : State) (x : Pair) → TriesHeap s → x ≡ get_or s.heaps s.next x
    → covered s.held x ≡ false → KeepsNext s
heap_keeps s x k a e =
    more_members s x 0 (s.next + 1) e
    (sym (ap (λ z. z.members)
    (heap_turned s _ (held_after s.held s.held x (length s.members))
    (cond (covered s.held x) s.generators (generators_with s.generators x (s.next + 1)))
    (s.next + 1) x
    (record {
      turns = k;
      heap = a;
      number = refl;
      members_are = refl;
      held_are = refl;
      generators_are = refl;
    }))))

pub heap_next : (p : ClosureView) (members : List Member) (held : List Held) (gens : List Generator)
    (n : ℕ) (x : Pair) (anew : Bool) (from : ℕ) → IsRun p → Tried p.state members held gens n x
    → (anew ≡ false → covered p.state.held x ≡ true) → from ≡ cond anew 0 (length held)
    → Next p members held gens n (p.spent + 1) from
heap_next p members held gens n x anew from r w kept e = (
  next_run p _ r (goes_heap p.state w.turns) (heap_turned p.state members held gens n x w),
  none anew kept e,
)
  where
    none : (b : Bool) → (b ≡ false → covered p.state.held x ≡ true) → from ≡ cond b 0 (length held)
        → NoneBefore held (length gens) from
    none true h e k l1 l2 = absurd (omega arith)
    none false h e k l1 l2 =
        let c = h refl in
        let all = w.turns.all in
        let held_same : held ≡ p.state.held =
        w.held_are ∙ cond-true (covered p.state.held x) p.state.held _ c in
        let gens_same : gens ≡ p.state.generators =
        w.generators_are ∙ cond-true (covered p.state.held x) p.state.generators _ c in
        let inside : k < length p.state.held = rw held_same at l2 in
        rw (held_same, gens_same)
        (none_before p.state.held (length p.state.generators) k blank_held (omega arith))
