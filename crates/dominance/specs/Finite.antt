-- Claims whose triples repeat with a period, up to a rise; and which heaps are tested, so that what is tested
-- of them holds of all. This project's own.
use Rattle.std.specs.Prelude.{true, ◌≡◌, ◌≢◌, ℕ, ◌+◌, ◌*◌, ◌%◌, ◌<◌, ◌≤◌, nat_lt, nat_le, ◌⊎◌, Bool, if◌then◌else◌, List, [], ◌∷◌, Contains}
use Rattle.misere_theory.specs.Games.{digit, HeapOption, IsHeap, IsPosition}
use Rattle.misere_theory.specs.Pairs.{IsSmallSplit}
use Rattle.misere_theory.specs.Plays.{IsWinningMove}
use Rattle.dominance.specs.Triples.{Triple, IsElement, triple_of}
use Rattle.dominance.specs.Tested.{Change, State, AreApart, IsStateOf, AreClosed, MayStandBeside, IsSettled}

-- The second triple has the same parity, more weight by the rise, and also more lead, unless both have none.
abbrev pub IsRaised : ℕ → Triple → Triple → Type 0
IsRaised rise u v =
    (u.odd ≡ v.odd) × (v.weight ≡ u.weight + rise)
    × (((u.lead ≡ 0) × (v.lead ≡ 0)) ⊎ ((0 < u.lead) × (v.lead ≡ u.lead + rise)))

-- The weight is at least so much, and so is the lead, unless there is none.
abbrev pub IsFar : ℕ → Triple → Type 0
IsFar far u = (far ≤ u.weight) × ((u.lead ≡ 0) ⊎ (far ≤ u.lead))

-- From which heap on the triples repeat, by what period and with what rise; from which heap on they are far;
-- up to which heap all is tested, less a period; the last digit of the code; how much weight a heap before
-- start has at most; how much weight a change loses at most; and the weight up to which others are tried
-- beside each heap.
pub record Extent : Type 0 where
  pub start : ℕ
  pub period : ℕ
  pub rise : ℕ
  pub large : ℕ
  pub last : ℕ
  pub digits : ℕ
  pub few : ℕ
  pub loss : ℕ
  pub tried : ℕ → ℕ

-- How many of the heaps are from start on.
abbrev pub heaps_from : ℕ → List ℕ → ℕ
heaps_from start [] = 0
heaps_from start (x ∷ X) = (if nat_lt x start then 0 else 1) + heaps_from start X

-- At most one of the heaps is from start on: such options are listed.
abbrev pub is_listed : ℕ → List ℕ → Bool
is_listed start H = nat_le (heaps_from start H) 1

-- The numbers are such that the tests are enough.
pub record IsExtent (code : List ℕ) (label : ℕ → Triple) (kept : List State) (e : Extent) : Type 0 where
  pub last_digit : (j : ℕ) → e.digits < j → digit code j ≡ 0
  pub from_one : 1 ≤ e.start
  pub some : 1 ≤ e.period
  pub rises : (0 < e.rise) × (e.rise % 2 ≡ 0)
  pub repeats : (n : ℕ) → e.start ≤ n → IsRaised e.rise (label n) (label (e.period + n))
  pub few : (n : ℕ) → IsHeap n → n < e.start → (label n).weight ≤ e.few
  pub far : (n : ℕ) → e.large ≤ n → n < e.large + e.period
      → IsFar (e.rise + e.loss + 2 * e.few + 2) (label n)
  pub from_start : e.start ≤ e.large
  pub beyond : (e.large + 2 * e.start + e.digits ≤ e.last)
      × (3 * e.start + 3 * e.period + e.digits ≤ e.last)
  pub losses : (k : State) (x : Change) → Contains kept k → k.changes x ≡ true → x.1 ≤ e.loss

-- What is tested of finitely many heaps, and beside each of finitely many triples.
pub record AreTestedBelow (code : List ℕ) (label : ℕ → Triple) (kinds kept : List State) (e : Extent)
    : Type 0 where
  pub extent : IsExtent code label kept e
  pub elements : (n : ℕ) → IsHeap n → n < e.start + e.period → IsElement (label n)
  pub apart : (n : ℕ) (H : List ℕ) → IsHeap n → n < e.last + e.period → HeapOption code n H
      → AreApart (label n) (triple_of label H)
      × ((heaps_from e.start H ≤ 1) ⊎ ((label n).odd ≢ (triple_of label H).odd))
  pub alive : (n : ℕ) → e.last ≤ n → n < e.last + e.period → (H : List ℕ) × HeapOption code n H
  pub kinds_of : (n : ℕ) → IsHeap n → n < e.last + e.period
      → (h : State) × Contains kinds h × IsStateOf code (is_listed e.start) label n h
  pub closed : AreClosed kinds kept
  pub enough : (n : ℕ) → IsHeap n → n < e.last + e.period
      → (2 * (label n).weight + e.loss ≤ e.tried n)
      × ((H : List ℕ) → HeapOption code n H → (triple_of label H).lead ≤ e.tried n)
  pub settled : (n : ℕ) (k : State) (y : Triple) → IsHeap n → n < e.last + e.period
      → Contains kept k → y.weight ≤ e.tried n + 2 → MayStandBeside (label n) k y
      → IsSettled code (is_listed e.start) label n k y

-- If a move wins in a position, one wins that leaves a heap no two of whose parts are from start on.
abbrev pub HasSmallWins : List ℕ → ℕ → Type 0
HasSmallWins code start =
    (X : List ℕ) → IsPosition IsHeap X → (n : ℕ) (H : List ℕ) → IsWinningMove code X n H
    → (m : ℕ) × (L : List ℕ) × IsWinningMove code X m L × IsSmallSplit start L
