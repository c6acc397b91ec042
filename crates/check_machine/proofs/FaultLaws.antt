-- Which faults are excluded, stage by stage.
use Rattle.std.proofs.Common.{arith}
use Rattle.misere_theory.specs.Quotients.{Monoid}
use Rattle.misere_theory.specs.Certificates.{Certificate, times_of}
use Rattle.misere_theory.specs.Faults.{WordFault, OrderFault, PeriodFault, ApartFault}
use Rattle.misere_theory.specs.Verdicts.{Fault, HasFault}
use Rattle.misere_theory.specs.Verdicts.Fault.{Law, Word, Order, Period, Apart}
use Rattle.misere_theory.proofs.Monoids.{no_law_fails}
use Rattle.check_machine.specs.SoFar.{HasNoFaultBelow}

module _ (c : Certificate) where
  pub none_below_law : HasNoFaultBelow 2 c
  none_below_law Law b h = absurd (omega arith)
  none_below_law Word b h = absurd (omega arith)
  none_below_law Order b h = absurd (omega arith)
  none_below_law Period b h = absurd (omega arith)
  none_below_law Apart b h = absurd (omega arith)

  pub none_below_word : Monoid c.order (times_of c) → HasNoFaultBelow 3 c
  none_below_word m Law b h = no_law_fails m h
  none_below_word m Word b h = absurd (omega arith)
  none_below_word m Order b h = absurd (omega arith)
  none_below_word m Period b h = absurd (omega arith)
  none_below_word m Apart b h = absurd (omega arith)

  pub none_below_order : HasNoFaultBelow 3 c → (WordFault c → ⊥) → HasNoFaultBelow 4 c
  none_below_order f n Law b h = f Law (omega arith) h
  none_below_order f n Word b h = n h
  none_below_order f n Order b h = absurd (omega arith)
  none_below_order f n Period b h = absurd (omega arith)
  none_below_order f n Apart b h = absurd (omega arith)

  pub none_below_period : HasNoFaultBelow 4 c → (OrderFault c → ⊥) → HasNoFaultBelow 5 c
  none_below_period f n Law b h = f Law (omega arith) h
  none_below_period f n Word b h = f Word (omega arith) h
  none_below_period f n Order b h = n h
  none_below_period f n Period b h = absurd (omega arith)
  none_below_period f n Apart b h = absurd (omega arith)

  pub none_below_apart : HasNoFaultBelow 5 c → (PeriodFault c → ⊥) → HasNoFaultBelow 6 c
  none_below_apart f n Law b h = f Law (omega arith) h
  none_below_apart f n Word b h = f Word (omega arith) h
  none_below_apart f n Order b h = f Order (omega arith) h
  none_below_apart f n Period b h = n h
  none_below_apart f n Apart b h = absurd (omega arith)

  pub none_at_all : HasNoFaultBelow 6 c → (ApartFault c → ⊥) → (fault : Fault) → HasFault c fault
      → ⊥
  none_at_all f n Law h = f Law (omega arith) h
  none_at_all f n Word h = f Word (omega arith) h
  none_at_all f n Order h = f Order (omega arith) h
  none_at_all f n Period h = f Period (omega arith) h
  none_at_all f n Apart h = n h
