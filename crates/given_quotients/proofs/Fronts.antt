-- The bytes that are read of a text decide as all of its bytes do.
use Rattle.std.proofs.Common.{◌≡◌, ◌≢◌, ◌<◌, ℕ, false, List, Result, Ok, Err, Vec, arith, length, take}
use Rattle.misere_theory.specs.Certificates.{Certificate}
use Rattle.certificate_text.specs.Spelling.{Spells}
use Rattle.answers.specs.ByteVerdicts.{IsTrueOf}
use Rattle.answers.specs.ByteVerdicts.ByteVerdict.{Memory, Yes}
use Rattle.check_machine.specs.Turns.{verdict}
use Rattle.given_quotients.specs.Checks.{IsFrontOf}
use Rattle.given_quotients.specs.Told.{BeginsWhole, BeginsPresented}
use Rattle.given_quotients.specs.Given.{FindsQuotient, JudgesQuotient}
use Rattle.given_quotients.specs.declared.giving.Quotient.{Quotient}
use Rattle.given_quotients.specs.declared.giving.Quotient.TheVariants.{Finite, Whole, Presented}
use Rattle.given_quotients.proofs.Given.{of_all, same_verdict, says_all, yes_all}

-- long bytes are no text of a whole game
pub no_long_whole : (bytes : List ℕ) → 4194304 < length bytes → BeginsWhole bytes → ⊥
no_long_whole bytes long begins = let short = begins.0 in omega (arith, long, short)

-- nor a presentation
pub no_long_presented : (bytes : List ℕ) → 4194304 < length bytes → BeginsPresented bytes → ⊥
no_long_presented bytes long begins = let short = begins.0 in omega (arith, long, short)

found : {A : Type 0} (Are : List ℕ → Type 0) (bytes : List ℕ) → Are bytes → (limit : ℕ)
    (q : Result Quotient (Vec ℕ A)) → JudgesQuotient bytes limit q → FindsQuotient Are limit q
found Are bytes are limit (Ok q) judged = (bytes, are, judged)
found Are bytes are limit (Err text) judged = (bytes, are, judged)

-- Verdicts are true and never want of memory.
module _ (laws : (bytes : List ℕ) (limit : ℕ) → IsTrueOf bytes limit (verdict bytes limit)
    × (verdict bytes limit ≢ Memory)
    × ((c d : Certificate) → verdict bytes limit ≡ Yes c → Spells bytes d → c ≡ d)) where
  judges_longer : {A : Type 0} (bytes front : List ℕ) (limit : ℕ) (q : Result Quotient (Vec ℕ A))
      → verdict front limit ≡ verdict bytes limit → 4194304 < length front → 4194304 < length bytes
      → JudgesQuotient front limit q → JudgesQuotient bytes limit q
  judges_longer bytes front limit (Ok (Finite c)) same long more given =
      (no_long_whole bytes more, no_long_presented bytes more, yes_all laws bytes front limit c same given.2)
  judges_longer bytes front limit (Ok (Whole c)) same long more given = absurd (no_long_whole front long given.0)
  judges_longer bytes front limit (Ok (Presented k)) same long more given =
      absurd (no_long_presented front long given.0)
  judges_longer bytes front limit (Err text) same long more refused = record {
    whole = λ begins. absurd (no_long_whole bytes more begins);
    presented = λ begins. absurd (no_long_presented bytes more begins);
    finite =
        λ _ _.
        says_all laws bytes front limit text.items false same
        (refused.finite (no_long_whole front long) (no_long_presented front long));
  }

  -- what is found by the front is found by all
  pub finds_all : {A : Type 0} (Are : List ℕ → Type 0) (front : List ℕ) (limit : ℕ)
      (q : Result Quotient (Vec ℕ A)) → IsFrontOf Are front → JudgesQuotient front limit q
      → FindsQuotient Are limit q
  finds_all Are front limit q (bytes, are, is) judged =
      found Are bytes are limit q
      (of_all (λ (b : List ℕ). JudgesQuotient b limit q) bytes front is
      (judges_longer bytes front limit q (same_verdict laws bytes front limit is)) judged)
