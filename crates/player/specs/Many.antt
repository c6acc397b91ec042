-- Many positions in one list of heaps. This project's own.
use Rattle.std.specs.Prelude.{◌≡◌, ℕ, ◌-◌, ◌<◌, ◌≤◌, List, ◌∷◌, length, take, drop, slice_index_or}

-- A position begins where the one before it ends, the first at 0.
abbrev pub start_at : List ℕ → ℕ → ℕ
start_at ends i = slice_index_or (0 ∷ ends) i 0

abbrev pub end_at : List ℕ → ℕ → ℕ
end_at ends i = slice_index_or ends i 0

-- the heaps of the position i
abbrev pub part : List ℕ → List ℕ → ℕ → List ℕ
part heaps ends i = take (end_at ends i - start_at ends i) (drop (start_at ends i) heaps)

-- the ends cut some of the heaps, of which there are n, into positions
abbrev pub AreEnds : ℕ → List ℕ → Type 0
AreEnds n ends =
    (i : ℕ) → i < length ends → (start_at ends i ≤ end_at ends i) × (end_at ends i ≤ n)

-- what is told of each of the first k positions by a certificate: its own entry of the list
abbrev pub TellFirst : {A C : Type 0} → (List ℕ → A → C → Type 0) → ℕ → List ℕ → List ℕ → List A → C
    → Type 0
TellFirst {A} Tells k heaps ends told c =
    (i : ℕ) (d : A) → i < k → Tells (part heaps ends i) (slice_index_or told i d) c

-- what is told of all positions, one entry for each
abbrev pub TellAll : {A C : Type 0} → (List ℕ → A → C → Type 0) → List ℕ → List ℕ → List A → C → Type 0
TellAll Tells heaps ends told c =
    (length told ≡ length ends) × TellFirst Tells (length ends) heaps ends told c
