-- What is found by what is given, and what is said by it, whatever it is: a quotient, or a certificate. This project's own.
use Rattle.std.specs.Prelude.{◌≡◌, ◌⊎◌, ℕ, Bool, false, List, Result, Ok, Err, Vec}

-- What was found is given, or the text is that of a refusal.
abbrev pub FindsBy : {Q A : Type 0} → (Q → Type 0) → (List ℕ → Type 0) → Result Q (Vec ℕ A) → Type 0
FindsBy Gives Refuses (Ok q) = Gives q
FindsBy Gives Refuses (Err text) = Refuses text.items

-- `Says` is what is said by what is found, and whether it ends well.
module _ {Q : Type 0} (Says : Q → List ℕ → Bool → Type 0) where
  -- that by what was found, or the text of a no
  abbrev pub SaysFound : {A : Type 0} → Result Q (Vec ℕ A) → List ℕ → Bool → Type 0
  SaysFound (Ok q) text succeeds = Says q text succeeds
  SaysFound (Err said) text succeeds = (text ≡ said.items) × (succeeds ≡ false)

  -- that by what is given, or the text of a refusal
  abbrev pub SaysGiven : (Q → Type 0) → (List ℕ → Type 0) → List ℕ → Bool → Type 0
  SaysGiven Gives Refuses text succeeds =
      ((q : Q) × Gives q × Says q text succeeds) ⊎ (Refuses text × (succeeds ≡ false))
