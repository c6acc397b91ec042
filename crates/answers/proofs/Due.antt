-- An answer that isn't want of memory is the due one.
use Rattle.std.proofs.Common.{◌≡◌, ◌≢◌, ◌⊎◌, inl, inr}
use Rattle.answers.specs.ByteVerdicts.{ByteVerdict}
use Rattle.answers.specs.ByteVerdicts.ByteVerdict.{Memory}

pub is_due : (answer due : ByteVerdict) → (answer ≡ due) ⊎ (answer ≡ Memory) → answer ≢ Memory
    → answer ≡ due
is_due answer due (inl same) some = same
is_due answer due (inr none) some = absurd (some none)
