use Rattle.misere_theory.proofs.Verdicts.{no_fault, faultless}
use Rattle.misere_theory.proofs.certificates.faultless_certificates_are_canonical_monoids.Goals as goal

pub returns-clause-both : goal.returns-clause-both
returns-clause-both g = faultless

pub returns-clause-none : goal.returns-clause-none
returns-clause-none g = no_fault
