-- A word has one last letter.
use Rattle.std.proofs.Common.{◌≡◌, ℕ, List, inl, inr, arith}
use Rattle.std.proofs.lemmas.Bool.{cases_order}
use Rattle.presented_forms.specs.Form.{IsLastLetter}

pub last-one : (w : List ℕ) (i k : ℕ) → IsLastLetter w i → IsLastLetter w k → i ≡ k
last-one w i k a b = elim (cases_order i k) [
  | inl same ↦ same
  | inr (inl before) ↦
      let none = a.none k before b.letter in let some = b.some in absurd (omega (arith, none, some))
  | inr (inr after) ↦
      let none = b.none i after a.letter in let some = a.some in absurd (omega (arith, none, some))
]
