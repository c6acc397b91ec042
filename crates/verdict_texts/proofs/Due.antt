-- Want of memory has no text, so that an answer with a text is the due one.
use Rattle.std.proofs.Common.{◌≡◌, ◌⊎◌, subst, List, ℕ}
use Rattle.answers.specs.ByteVerdicts.{ByteVerdict}
use Rattle.answers.specs.ByteVerdicts.ByteVerdict.{Memory}
use Rattle.answers.proofs.Due.{is_due}
use Rattle.verdict_texts.specs.Lines.{IsTextOf}

pub told_is_due : (answer due : ByteVerdict) (text : List ℕ) → (answer ≡ due) ⊎ (answer ≡ Memory)
    → IsTextOf answer text → answer ≡ due
told_is_due answer due text decided told =
    is_due answer due decided (λ none. subst (λ (a : ByteVerdict). IsTextOf a text) none told)
