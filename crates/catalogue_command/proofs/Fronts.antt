-- What a file holds that begins with what is read of it.
use Rattle.std.proofs.Common.{◌≡◌, ◌≤◌, ℕ, List, Option, Some, None, length, sym, take}
use Rattle.std.proofs.lemmas.List.{take_all}
use Rattle.streams.specs.Files.{BeginsWith, Holds}

pub whole_of : (files : Option (List ℕ → Option (List ℕ))) (name : List ℕ) (many : ℕ)
    (front : List ℕ) → BeginsWith files name many front → length front ≤ many
    → (bytes : List ℕ) × Holds files name bytes × (front ≡ take many bytes)
whole_of None name many front begins few = (front, tt, sym (take_all many front few))
whole_of (Some files) name many front begins few = (begins.0, begins.1, begins.2)
