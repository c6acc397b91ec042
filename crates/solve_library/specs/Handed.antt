-- What a call hands over in its caller's room. This project's own.
use Rattle.std.specs.Prelude.{◌≡◌, ◌⊎◌, ◌<◌, ℕ, Bool, List, Result, Ok, Err, IfOk, IfErr, length, take}
use Rattle.solve_library.specs.Found.{untold_number}
use Rattle.solve_library.specs.declared.causes.Untold.{Untold}
use Rattle.solve_library.specs.declared.handing.Told.{Told}
use Rattle.solve_library.specs.declared.solving.Asked.{Asked}

-- A text is put in front of the room, with its length and its status; or it is too long for the room, and
-- its length alone is told, with 14. Of why there is none its number is answered, and all stays.
abbrev pub IsHandedOver : Result Told Untold → List ℕ → List ℕ → ℕ → ℕ → ℕ → Type 0
IsHandedOver (Ok it) old new before count status = (count ≡ length it.text.items)
    × (((status ≡ it.status) × (take count new ≡ it.text.items))
    ⊎ ((status ≡ 14) × (length old < count) × (new ≡ old)))
IsHandedOver (Err why) old new before count status =
    (status ≡ untold_number why) × (new ≡ old) × (count ≡ before)

-- what is handed over is a text of which this is true with its status, or this is why there is none
abbrev pub HandsOver : (ℕ → List ℕ → Type 0) → (Untold → Type 0) → List ℕ → List ℕ → ℕ → ℕ → ℕ → Type 0
HandsOver Tells IsWhy old new before count status =
    (answer : Result Told Untold) × IfOk answer (λ it. Tells it.status it.text.items) × IfErr answer IsWhy
    × IsHandedOver answer old new before count status

-- what is asked of a search
abbrev pub asked : ℕ → ℕ → ℕ → ℕ → ℕ → Bool → Asked
asked limit rounds aim heaps order tells_why = record {
  limit = limit;
  rounds = rounds;
  aim = aim;
  heaps = heaps;
  order = order;
  tells_why = tells_why;
}
