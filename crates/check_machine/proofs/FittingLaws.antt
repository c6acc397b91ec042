-- What fits the certificate that the bytes spell holds of the bytes.
-- By cases of the answer.
use Rattle.std.proofs.Common.{ℕ, List}
use Rattle.misere_theory.specs.Certificates.{Certificate}
use Rattle.certificate_text.specs.Spelling.{Spells}
use Rattle.answers.specs.ByteVerdicts.{ByteVerdict, Fits, Holds}
use Rattle.answers.specs.ByteVerdicts.ByteVerdict.{Yes, Text, No, Outcome, Limit, Memory}

module _ (bytes : List ℕ) (c : Certificate) (spelled : Spells bytes c) (limit : ℕ) where
  pub fitting_is_true : (a : ByteVerdict) → Fits c limit a → Holds bytes limit a
  fitting_is_true (Yes d) f = (c, spelled, f)
  fitting_is_true Text f = absurd f
  fitting_is_true (No fault) f = (c, spelled, f)
  fitting_is_true (Outcome code X) f = (c, spelled, f)
  fitting_is_true Limit f = (c, spelled, f)
  fitting_is_true Memory f = tt
