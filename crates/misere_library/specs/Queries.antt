-- What the calls of the library tell of bytes and of positions. This project's own.
use Rattle.std.specs.Prelude.{◌≡◌, ◌≢◌, ◌⊎◌, ℕ, List, All, IsPermutation}
use Rattle.std.specs.List.Sorted.{IsNonDecreasing}
use Rattle.misere_theory.specs.Certificates.{Certificate, Accepted, claim_of}
use Rattle.misere_theory.specs.Quotients.{value}
use Rattle.certificate_text.specs.Spelling.{Spells}
use Rattle.answers.specs.ByteVerdicts.{ByteVerdict, IsTrueOf}
use Rattle.answers.specs.ByteVerdicts.ByteVerdict.{Yes, Memory, Outcome as Fails}
use Rattle.check_machine.specs.Turns.{verdict}
use Rattle.positions.specs.Positions.{IsSize}
use Rattle.positions.specs.Outcomes.{HasOutcome}
use Rattle.positions.specs.declared.outcome.Outcome.{Outcome}
use Rattle.player.specs.Answers.{IsRightAnswer, SpeaksOf}
use Rattle.player.specs.declared.answering.Answer.{Answer}
use Rattle.player.specs.Numbers.{outcome_number, IsAnswerOf}
use Rattle.player.specs.Asked.{AreNoEnds, CutInto, IsNoPosition}
use Rattle.player.specs.declared.numbers.MisereAnswer.{MisereAnswer}
use Rattle.misere_library.specs.Numbers.{status_of}

-- The bytes are an accepted certificate, to which the verdict under the limit is yes, and of which
-- the rest is true.
abbrev pub Certify : List ℕ → ℕ → (Certificate → Type 0) → Type 0
Certify bytes limit says =
    (c : Certificate) × Spells bytes c × Accepted c × (verdict bytes limit ≡ Yes c) × says c

-- The status is that of an answer of a check under the limit, which is true of the bytes. It is
-- the verdict, unless memory was refused.
pub record IsStatus (bytes : List ℕ) (limit status : ℕ) : Type 0 where
  pub answer : ByteVerdict
  pub number : status ≡ status_of answer
  pub true_of : IsTrueOf bytes limit answer
  pub decided : (answer ≡ verdict bytes limit) ⊎ (answer ≡ Memory)

-- The bytes are refused.
abbrev pub IsNoQuotient : List ℕ → ℕ → ℕ → Type 0
IsNoQuotient bytes limit status = (status ≢ 0) × IsStatus bytes limit status

-- These are heaps, and the certificate, which is partial, doesn't speak of them all.
abbrev pub LeavesOut : List ℕ → Certificate → Type 0
LeavesOut heaps c = (c.period ≡ 0) × All IsSize heaps × (SpeaksOf c heaps → ⊥)

-- The certificate doesn't speak of all these heaps.
abbrev pub IsBeyond : List ℕ → ℕ → List ℕ → ℕ → Type 0
IsBeyond bytes limit heaps status = (status ≡ 23) × Certify bytes limit (LeavesOut heaps)

-- Why nothing is told of a position: one of these, or memory was refused.
abbrev pub IsNo : List ℕ → ℕ → List ℕ → ℕ → Type 0
IsNo bytes limit heaps status =
    IsNoPosition heaps status
    ⊎ (IsNoQuotient bytes limit status ⊎ (IsBeyond bytes limit heaps status ⊎ (status ≡ 9)))

-- Why nothing is told of many positions: the ends don't cut the heaps into them, or they do, and nothing is
-- told of the heaps.
abbrev pub IsNoToMany : List ℕ → ℕ → List ℕ → List ℕ → ℕ → ℕ → Type 0
IsNoToMany bytes limit heaps ends room status =
    AreNoEnds heaps ends room status ⊎ (CutInto heaps ends room × IsNo bytes limit heaps status)

-- the number of the outcome of the position of these heaps, of which the certificate speaks
abbrev pub TellsOutcome : List ℕ → ℕ → Certificate → Type 0
TellsOutcome heaps n c =
    SpeaksOf c heaps × ((o : Outcome) × (n ≡ outcome_number o) × HasOutcome c.code heaps o)

-- the element of the position of these heaps, of which the certificate speaks
abbrev pub TellsValue : List ℕ → ℕ → Certificate → Type 0
TellsValue heaps n c = SpeaksOf c heaps × (n ≡ value (claim_of c) heaps)

-- the numbers are those of the right answer in the position
abbrev pub TellsRight : Certificate → MisereAnswer → List ℕ → Type 0
TellsRight c n X = (a : Answer) × IsAnswerOf a n × IsRightAnswer c.code X a

-- the right answer in the position of these heaps, rising, of which the certificate speaks
abbrev pub TellsAnswer : List ℕ → MisereAnswer → Certificate → Type 0
TellsAnswer heaps n c =
    SpeaksOf c heaps
    × ((X : List ℕ) × IsPermutation heaps X × IsNonDecreasing X × TellsRight c n X)

-- the bytes are refused, truly, since the rule of their code's game fails at this position
abbrev pub FailsAt : List ℕ → ℕ → List ℕ → Type 0
FailsAt bytes limit X = (code : List ℕ) × IsTrueOf bytes limit (Fails code X)
