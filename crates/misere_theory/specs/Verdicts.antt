-- What may be answered of a certificate. This project's own.
use Rattle.std.specs.Prelude.{ℕ, ◌<◌, List}
use Rattle.misere_theory.specs.Games.{IsPosition}
use Rattle.misere_theory.specs.Quotients.{Monoid, RuleFails, ReachesMoreThan}
use Rattle.misere_theory.specs.Certificates.{Certificate, IsHeapOf, claim_of, times_of, Canonical, Accepted}
use Rattle.misere_theory.specs.Faults.{LawFault, WordFault, OrderFault, PeriodFault, ApartFault}

-- The faults that are seen in a certificate's numbers alone.
pub data Fault : Type 0 where
  Law : Fault
  Word : Fault
  Order : Fault
  Period : Fault
  Apart : Fault

abbrev pub fault_number : Fault → ℕ
fault_number Law = 2
fault_number Word = 3
fault_number Order = 4
fault_number Period = 5
fault_number Apart = 6

-- The fault is in the certificate.
abbrev pub HasFault : Certificate → Fault → Type 0
HasFault c Law = LawFault c
HasFault c Word = WordFault c
HasFault c Order = OrderFault c
HasFault c Period = PeriodFault c
HasFault c Apart = ApartFault c

-- The fault is in the certificate, and none with a smaller number is.
abbrev pub IsFirstFault : Certificate → Fault → Type 0
IsFirstFault c fault =
    HasFault c fault × ((other : Fault) → fault_number other < fault_number fault → HasFault c other
    → ⊥)

-- The answers to a certificate whose text could be read: yes, a fault in its numbers, a position
-- where the rule fails, or too many transition pairs.
pub data Verdict : Type 0 where
  Yes : Verdict
  No : Fault → Verdict
  Outcome : List ℕ → Verdict
  Limit : Verdict

-- Which answers are true of a certificate in its ranges: yes where it is accepted; a fault where it
-- is the first; and for a canonical certificate of a monoid a position where the rule fails, or
-- that positions have more than limit different transition pairs.
abbrev pub IsAllowed : Certificate → ℕ → Verdict → Type 0
IsAllowed c limit Yes = Accepted c
IsAllowed c limit (No fault) = IsFirstFault c fault
IsAllowed c limit (Outcome X) =
    Monoid c.order (times_of c) × Canonical c × IsPosition (IsHeapOf c) X
    × RuleFails c.code (claim_of c) X
IsAllowed c limit Limit =
    Monoid c.order (times_of c) × Canonical c
    × ReachesMoreThan (IsHeapOf c) c.code (claim_of c) limit
