use Rattle.misere_theory.proofs.FaultLemmas.{canonical_from_none, no_word_fault, no_order_fault, no_period_fault, no_apart_fault}
use Rattle.misere_theory.proofs.certificates.faultless_certificates_are_canonical.Goals as goal

pub returns : goal.returns
returns g = record {
  canonical = canonical_from_none;
  no_word_fault = no_word_fault;
  no_order_fault = no_order_fault;
  no_period_fault = no_period_fault;
  no_apart_fault = no_apart_fault;
}
