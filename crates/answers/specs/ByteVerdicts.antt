-- What is answered to bytes, and which answers are true of them. This project's own.
use Rattle.std.specs.Prelude.{◌≡◌, ◌≢◌, ◌⊎◌, ℕ, ◌≤◌, ◌*◌, ◌^◌, List, Result, Ok, Err}
use Rattle.misere_theory.specs.Quotients.{Monoid, Represents}
use Rattle.misere_theory.specs.Certificates.{Certificate, kind_of, IsHeapOf, Accepted, Canonical, claim_of, times_of}
use Rattle.misere_theory.specs.Verdicts.{Fault, Verdict, IsAllowed}
use Rattle.misere_theory.specs.Verdicts.Fault.{Law, Word, Order, Period, Apart}
use Rattle.certificate_text.specs.Spelling.{Spells}
use Rattle.answers.specs.declared.refusal.Refusal.{Refusal}
use Rattle.answers.specs.declared.refusal.Refusal.TheVariants as no

-- The verdict on bytes: yes with the certificate, or a refusal; with No a fault, and with Outcome a
-- code and a position.
pub data ByteVerdict : Type 0 where
  Yes : Certificate → ByteVerdict
  Text : ByteVerdict
  No : Fault → ByteVerdict
  Outcome : List ℕ → List ℕ → ByteVerdict
  Limit : ByteVerdict
  Memory : ByteVerdict

abbrev pub refused : {A : Type 0} → Refusal A → ByteVerdict
refused no.Text = Text
refused no.Law = No Law
refused no.Word = No Word
refused no.Order = No Order
refused no.Period = No Period
refused no.Apart = No Apart
refused (no.Outcome code X) = Outcome code X
refused no.Limit = Limit
refused no.Memory = Memory

abbrev pub answer_of : {A : Type 0} → Result Certificate (Refusal A) → ByteVerdict
answer_of (Ok c) = Yes c
answer_of (Err r) = refused r

-- The answer is true of the certificate c.
abbrev pub Fits : Certificate → ℕ → ByteVerdict → Type 0
Fits c limit (Yes d) = (d ≡ c) × IsAllowed c limit Verdict.Yes
Fits c limit Text = ⊥
Fits c limit (No fault) = IsAllowed c limit (Verdict.No fault)
Fits c limit (Outcome code X) = (code ≡ c.code) × IsAllowed c limit (Verdict.Outcome X)
Fits c limit Limit = IsAllowed c limit Verdict.Limit
Fits c limit Memory = Unit {0}

-- The bytes spell a certificate of which the answer is true.
abbrev pub SpellFitting : List ℕ → ℕ → ByteVerdict → Type 0
SpellFitting bytes limit answer = (c : Certificate) × Spells bytes c × Fits c limit answer

-- The answer holds of the bytes: Text where they spell no certificate, Memory at any time, and
-- every other one of the certificate that they spell.
abbrev pub Holds : List ℕ → ℕ → ByteVerdict → Type 0
Holds bytes limit Text = (c : Certificate) → Spells bytes c → ⊥
Holds bytes limit Memory = Unit {0}
Holds bytes limit answer = SpellFitting bytes limit answer

-- each accepted text of the certificate's code and kind is these bytes
abbrev pub IsOnlyText : List ℕ → Certificate → Type 0
IsOnlyText bytes c = (other : List ℕ) (d : Certificate) → Spells other d → Accepted d
    → d.code ≡ c.code → kind_of d ≡ kind_of c → other ≡ bytes

-- The answer is true of the bytes. It holds of them, and so
--   a yes is to the one accepted text of its code and kind,
--   accepted bytes get yes, Limit or Memory,
--   those with the laws and canonical, but with another monoid than the quotient of their code's
--   game, or of the heaps of which they speak, get Outcome, Limit or Memory,
--   and never Limit where the limit is no less than all the pairs of an element and a set of
--   elements.
pub record IsTrueOf (bytes : List ℕ) (limit : ℕ) (answer : ByteVerdict) : Type 0 where
  pub holds : Holds bytes limit answer
  pub yes : (c : Certificate) → answer ≡ Yes c → Spells bytes c × Accepted c × IsOnlyText bytes c
  pub accepted : (c : Certificate) → Spells bytes c → Accepted c
      → (answer ≡ Yes c) ⊎ ((answer ≡ Limit) ⊎ (answer ≡ Memory))
  pub wrong : (c : Certificate) → Spells bytes c → Monoid c.order (times_of c) → Canonical c
      → (Represents (IsHeapOf c) c.code (claim_of c) → ⊥)
      → ((X : List ℕ) × (answer ≡ Outcome c.code X)) ⊎ ((answer ≡ Limit) ⊎ (answer ≡ Memory))
  pub within : (c : Certificate) → Spells bytes c → c.order * 2 ^ c.order ≤ limit → answer ≢ Limit
