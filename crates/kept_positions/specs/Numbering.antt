-- When tables say what labels and heaps do. This project's own.
use Rattle.std.specs.Prelude.{◌≡◌, ℕ, ◌<◌, ◌↔◌, true, List, [], ◌∷◌, slice_index}
use Rattle.misere_theory.specs.Labels.{LabelClaim}
use Rattle.kept_positions.specs.Kept.{IsBadBeside, IsMovable}
use Rattle.kept_positions.specs.Numbers.{LabelTables, ClassTurns, entry, is_bad, DoesTurn}

-- A heap for each number, and a number for each heap that has an option: of those with one number, the one that
-- has it is bad wherever another is. A label for each number, and a class for each label.
pub record Numbering (L : Type 0) : Type 0 where
  pub size : ℕ → ℕ
  pub number : ℕ → ℕ
  pub label : ℕ → L
  pub class : L → ℕ

-- The weight of a heap is that of its number.
abbrev pub weight_in : LabelTables → {L : Type 0} → Numbering L → ℕ → ℕ
weight_in t b n = slice_index t.weights (b.number n)

-- The tables say what the claim says.
pub record AreTablesOf {L : Type 0} (IsLabel : L → Type 0) (heap : ℕ → Type 0) (code : List ℕ)
    (c : LabelClaim L) (b : Numbering L) (t : LabelTables) : Type 0 where
  pub numbers : (n : ℕ) → IsMovable heap code n → b.number n < t.heaps
  pub same_label : (n : ℕ) → IsMovable heap code n → c.label n ≡ c.label (b.size (b.number n))
  pub worst : (n : ℕ) (x : L) → IsMovable heap code n → IsLabel x → IsBadBeside code c x (n ∷ [])
      → IsBadBeside code c x (b.size (b.number n) ∷ [])
  pub sizes : (g : ℕ) → g < t.heaps → IsMovable heap code (b.size g) × (b.number (b.size g) ≡ g)
  pub classes : (x : L) → IsLabel x → b.class x < t.classes
  pub start : b.class c.one ≡ t.start
  pub nothing : b.label 0 ≡ c.one
  pub labels : (w : ℕ) → w < t.labels → IsLabel (b.label w)
  pub next : (w g : ℕ) → w < t.labels → g < t.heaps → entry t.next t.heaps w g < t.labels
      → b.label (entry t.next t.heaps w g) ≡ c.times (c.label (b.size g)) (b.label w)
  pub bad : (x : L) (w g : ℕ) → IsLabel x → w < t.labels → g < t.heaps
      → (is_bad t (b.class x) w g ≡ true) ↔ IsBadBeside code c (c.times x (b.label w)) (b.size g ∷ [])

-- They say to which classes the labels of a class come with a heap more.
abbrev pub AreTurnsOf : {L : Type 0} → (L → Type 0) → LabelClaim L → Numbering L → LabelTables → ClassTurns → Type 0
AreTurnsOf {L} IsLabel c b t u =
    (x : L) (g : ℕ) → IsLabel x → g < t.heaps
    → DoesTurn t u (b.class x) g (b.class (c.times x (c.label (b.size g))))
