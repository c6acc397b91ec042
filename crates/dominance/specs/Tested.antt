-- What is tested of a claim that gives each heap a triple. This project's own.
use Rattle.std.specs.Prelude.{◌≡◌, ◌≢◌, ℕ, ◌+◌, ◌-◌, ◌*◌, ◌%◌, ◌<◌, ◌≤◌, ◌==◌, max, ◌⊎◌, Bool, true, false, ◌||◌, if◌then◌else◌, List, Contains}
use Rattle.misere_theory.specs.Games.{HeapOption, IsHeap}
use Rattle.dominance.specs.Triples.{Triple, xor, times, is_p, parity_fits, IsElement, triple_of}

-- An odd triple without weight isn't in the P-portion together with this one.
abbrev pub IsApartFromOdd : Triple → Triple → Type 0
IsApartFromOdd u v = u.weight ≡ 0 → 0 < v.weight → parity_fits v.weight v.lead ≡ false

-- Beside no third triple are both in the P-portion: the parities differ, and so where one has no weight;
-- or the weights differ by 1, and the leads by 1 at most.
abbrev pub AreApart : Triple → Triple → Type 0
AreApart u v =
    ((u.odd ≢ v.odd) × IsApartFromOdd u v × IsApartFromOdd v u)
    ⊎ ((u.odd ≡ v.odd) × ((u.weight ≡ v.weight + 1) ⊎ (v.weight ≡ u.weight + 1))
    × (u.lead ≤ v.lead + 1) × (v.lead ≤ u.lead + 1))

-- A change that a move may make: whether the parity changes, and how much weight is lost.
abbrev pub Change : Type 0
Change = Bool × ℕ

-- What is known of a position: its parity; 0 where it has no weight, 1 where the weight is odd, else 2;
-- whether it has a move; and some of the changes that moves make.
pub record State : Type 0 where
  pub odd : Bool
  pub size : ℕ
  pub alive : Bool
  pub changes : Change → Bool

abbrev pub size_of : ℕ → ℕ
size_of weight = if weight == 0 then 0 else 2 - weight % 2

-- The state of the empty position.
abbrev pub empty_state : State
empty_state = record { odd = false; size = 0; alive = false; changes = λ x. false }

-- The state of two positions together.
abbrev pub together : State → State → State
together k h =
    record {
      odd = xor k.odd h.odd;
      size = size_of (k.size + h.size);
      alive = k.alive || h.alive;
      changes = λ x. k.changes x || h.changes x;
    }

-- The first state says no more than the second one.
pub record IsWithin (k h : State) : Type 0 where
  pub same_odd : k.odd ≡ h.odd
  pub same_size : k.size ≡ h.size
  pub same_alive : k.alive ≡ h.alive
  pub fewer : (x : Change) → k.changes x ≡ true → h.changes x ≡ true

-- Some listed option of the heap makes the change, and its own lead is at most the heap's weight.
abbrev pub IsHeapChange : List ℕ → (List ℕ → Bool) → (ℕ → Triple) → ℕ → Change → Type 0
IsHeapChange code listed label n x =
    (H : List ℕ) × HeapOption code n H × (listed H ≡ true)
    × ((triple_of label H).odd ≡ xor x.0 (label n).odd)
    × ((triple_of label H).weight + x.1 ≡ (label n).weight)
    × ((triple_of label H).lead ≤ (label n).weight)

-- The state of the heap alone.
pub record IsStateOf (code : List ℕ) (listed : List ℕ → Bool) (label : ℕ → Triple) (n : ℕ) (k : State) : Type 0 where
  pub same_odd : k.odd ≡ (label n).odd
  pub same_size : k.size ≡ size_of (label n).weight
  pub moves : k.alive ≡ true → (H : List ℕ) × HeapOption code n H
  pub ended : k.alive ≡ false → (H : List ℕ) → HeapOption code n H → ⊥
  pub changes : (x : Change) → k.changes x ≡ true → IsHeapChange code listed label n x

-- The kept states have the empty position's, and with each also the one of a heap more.
pub record AreClosed (kinds kept : List State) : Type 0 where
  pub start : (k : State) × Contains kept k × IsWithin k empty_state
  pub step : (k h : State) → Contains kept k → Contains kinds h
      → (j : State) × Contains kept j × IsWithin j (together k h)

-- y may be the triple of a position in the state k beside a heap of the triple u that is no lighter than its
-- heaps, and that has the greatest lead of those as heavy.
pub record MayStandBeside (u : Triple) (k : State) (y : Triple) : Type 0 where
  pub element : IsElement y
  pub same_odd : k.odd ≡ y.odd
  pub same_size : k.size ≡ size_of y.weight
  pub losses : (x : Change) → k.changes x ≡ true → x.1 ≤ y.weight
  pub light : u.weight ≡ 0 → y.weight ≡ 0
  pub led : y.lead ≤ max (u.lead - (y.weight - u.weight)) (2 * u.weight - 3 - y.weight)

-- The rule at a heap of this triple beside y, in the state k: in the P-portion there is a move; outside there
-- is none, or some option of the heap leads into it, or a change of the others does.
pub record IsSettled (code : List ℕ) (listed : List ℕ → Bool) (label : ℕ → Triple) (n : ℕ) (k : State) (y : Triple) : Type 0 where
  pub inside : is_p (times (label n) y) ≡ true
      → (k.alive ≡ true) ⊎ ((H : List ℕ) × HeapOption code n H)
  pub outside : is_p (times (label n) y) ≡ false
      → ((k.alive ≡ false) × ((H : List ℕ) → HeapOption code n H → ⊥))
      ⊎ ((H : List ℕ) × HeapOption code n H × (listed H ≡ true) × (is_p (times (triple_of label H) y) ≡ true))
      ⊎ ((x : Change) × (k.changes x ≡ true)
      × (is_p (times (label n) (record { odd = xor x.0 y.odd; weight = y.weight - x.1; lead = 0 })) ≡ true))

-- All that is tested, of each heap: its triple is an element; those of its options are apart from it; it
-- has one of the kinds; and it is settled beside whatever may stand there in a kept state. The moves that
-- are to be made are looked for among the listed options alone.
pub record AreTested (code : List ℕ) (listed : List ℕ → Bool) (label : ℕ → Triple) (kinds kept : List State) : Type 0 where
  pub elements : (n : ℕ) → IsHeap n → IsElement (label n)
  pub apart : (n : ℕ) (H : List ℕ) → IsHeap n → HeapOption code n H
      → AreApart (label n) (triple_of label H)
  pub kinds_of : (n : ℕ) → IsHeap n → (h : State) × Contains kinds h × IsStateOf code listed label n h
  pub closed : AreClosed kinds kept
  pub settled : (n : ℕ) (k : State) (y : Triple) → IsHeap n → Contains kept k
      → MayStandBeside (label n) k y → IsSettled code listed label n k y
