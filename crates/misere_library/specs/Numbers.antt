-- The numbers of verdicts. This project's own.
use Rattle.std.specs.Prelude.{ℕ}
use Rattle.misere_theory.specs.Verdicts.{fault_number}
use Rattle.answers.specs.ByteVerdicts.{ByteVerdict}
use Rattle.answers.specs.ByteVerdicts.ByteVerdict.{Yes, Text, No, Outcome, Limit, Memory}

-- 0 for yes, and the number of a refusal
abbrev pub status_of : ByteVerdict → ℕ
status_of (Yes c) = 0
status_of Text = 1
status_of (No fault) = fault_number fault
status_of (Outcome code X) = 7
status_of Limit = 8
status_of Memory = 9
