-- A word with none of the letters from some on.
use Rattle.std.proofs.Common.{◌≡◌, ℕ, ◌<◌, ◌≤◌, List, length, inl, inr, arith}
use Rattle.std.specs.Prelude.{slice_index}
use Rattle.std.proofs.Math.ListN.{get_or-eq_default}
use Rattle.std.proofs.lemmas.Bool.{cases_lt}
use Rattle.presentations.specs.declared.TheConstants.{LETTERS}
use Rattle.normal_forms.specs.Forms.{IsIn}

pub in-all : (letters : ℕ) (w : List ℕ) → length w ≡ LETTERS
    → ((k : ℕ) → k < LETTERS → letters ≤ k → slice_index w k ≡ 0) → IsIn letters w
in-all letters w long none k le = elim (cases_lt k LETTERS) [
  | inl lt ↦ none k lt le
  | inr out ↦ get_or-eq_default w 0 (omega (arith, long, out))
]
