-- What has to be tested of a claim over labels, so that they are the misère quotient. This project's own.
use Rattle.std.specs.Prelude.{◌≡◌, ℕ, true, false, List}
use Rattle.misere_theory.specs.Games.{HeapOption}
use Rattle.misere_theory.specs.Parts.{IsPart}
use Rattle.misere_theory.specs.Labels.{LabelClaim, label_of, AreLabels}
use Rattle.kept_positions.specs.Kept.{AreNeverBad}

-- The labels are a commutative monoid, and each heap has one, which is that of nothing if the heap has no
-- option. The empty position isn't in the portion, nor is, beside the same label, a heap together with one of
-- its options. And no position of heaps with options is bad beside nothing.
pub record AreTestedLabels {L : Type 0} (IsLabel : L → Type 0) (heap : ℕ → Type 0) (code : List ℕ)
    (c : LabelClaim L) : Type 0 where
  pub part : IsPart heap code
  pub monoid : AreLabels IsLabel c.one c.times
  pub labels : (n : ℕ) → heap n → IsLabel (c.label n)
  pub idle : (n : ℕ) → heap n → ((H : List ℕ) → HeapOption code n H → ⊥) → c.label n ≡ c.one
  pub ended : c.portion c.one ≡ false
  pub moves : (n : ℕ) (H : List ℕ) (x : L) → heap n → HeapOption code n H → IsLabel x
      → c.portion (c.times x (c.label n)) ≡ true → c.portion (c.times x (label_of c H)) ≡ false
  pub never_bad : AreNeverBad heap code c
