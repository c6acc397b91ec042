-- The numbers and names of refusals, and what Outcome hands out.
use Rattle.std.specs.Prelude.{◌≡◌, ℕ, List, codes, Option, Some, None}
use Rattle.std.specs.Borrow.{Bor}
use Rattle.answers.specs.declared.refusal.Refusal.{Refusal}
use Rattle.answers.specs.declared.refusal.Refusal.TheVariants.{Text, Law, Word, Order, Period, Apart, Outcome, Limit, Memory}

abbrev pub refusal_number : {A : Type 0} → Refusal A → ℕ
refusal_number Text = 1
refusal_number Law = 2
refusal_number Word = 3
refusal_number Order = 4
refusal_number Period = 5
refusal_number Apart = 6
refusal_number (Outcome code position) = 7
refusal_number Limit = 8
refusal_number Memory = 9

abbrev pub refusal_name : {A : Type 0} → Refusal A → List ℕ
refusal_name Text = codes "Text"
refusal_name Law = codes "Law"
refusal_name Word = codes "Word"
refusal_name Order = codes "Order"
refusal_name Period = codes "Period"
refusal_name Apart = codes "Apart"
refusal_name (Outcome code position) = codes "Outcome"
refusal_name Limit = codes "Limit"
refusal_name Memory = codes "Memory"

-- of Outcome the code and the position, of the others nothing
abbrev pub IsFailure : {A : Type 0} → Refusal A → Option (Bor (List ℕ) × Bor (List ℕ)) → Type 0
IsFailure (Outcome code X) (Some found) = (found.0.now ≡ code) × (found.1.now ≡ X)
IsFailure (Outcome code X) None = ⊥
IsFailure Text found = found ≡ None
IsFailure Law found = found ≡ None
IsFailure Word found = found ≡ None
IsFailure Order found = found ≡ None
IsFailure Period found = found ≡ None
IsFailure Apart found = found ≡ None
IsFailure Limit found = found ≡ None
IsFailure Memory found = found ≡ None
