-- The options of a position, place by place: what a look at them finds. This project's own.
use Rattle.std.specs.Prelude.{◌≡◌, ℕ, suc, Bool, true, false, List, ◌++◌, slice_index, take, drop}
use Rattle.misere_theory.specs.Games.{HeapOption, Move}
use Rattle.outcome_rule.specs.declared.glance.Glance.{Glance}
use Rattle.outcome_rule.specs.declared.glance.Glance.TheVariants.{Still, Out, In, Unknown}

-- The heaps H take the place of heap number k.
abbrev pub replaced : List ℕ → ℕ → List ℕ → List ℕ
replaced X k H = take k X ++ (H ++ drop (suc k) X)

-- Heap number k of X has an option.
abbrev pub MovesAt : List ℕ → List ℕ → ℕ → Type 0
MovesAt code X k = (H : List ℕ) × HeapOption code (slice_index X k) H

-- P is said of no option of X by a move in heap number k.
abbrev pub LeadsOutAt : List ℕ → (List ℕ → Bool) → List ℕ → ℕ → Type 0
LeadsOutAt code says X k =
    (H : List ℕ) → HeapOption code (slice_index X k) H → says (replaced X k H) ≡ false

-- P is said of some.
abbrev pub LeadsInAt : List ℕ → (List ℕ → Bool) → List ℕ → ℕ → Type 0
LeadsInAt code says X k =
    (H : List ℕ) × HeapOption code (slice_index X k) H × (says (replaced X k H) ≡ true)

-- What is found is so of the moves in heap number k of X.
abbrev pub IsLookAt : List ℕ → (List ℕ → Bool) → List ℕ → ℕ → Glance → Type 0
IsLookAt code says X k Still = MovesAt code X k → ⊥
IsLookAt code says X k Out = MovesAt code X k × LeadsOutAt code says X k
IsLookAt code says X k In = LeadsInAt code says X k
IsLookAt code says X k Unknown = Unit {0}

-- It is so of all moves: there is none; or none leads to a position of which P is said; or one does.
abbrev pub IsLook : List ℕ → (List ℕ → Bool) → List ℕ → Glance → Type 0
IsLook code says X Still = (Y : List ℕ) → Move code X Y → ⊥
IsLook code says X Out =
    ((Y : List ℕ) × Move code X Y) × ((Y : List ℕ) → Move code X Y → says Y ≡ false)
IsLook code says X In = (Y : List ℕ) × Move code X Y × (says Y ≡ true)
IsLook code says X Unknown = Unit {0}

-- What is found of both.
abbrev pub joined : Glance → Glance → Glance
joined In _ = In
joined Unknown _ = Unknown
joined Still x = x
joined Out In = In
joined Out Unknown = Unknown
joined Out Still = Out
joined Out Out = Out
