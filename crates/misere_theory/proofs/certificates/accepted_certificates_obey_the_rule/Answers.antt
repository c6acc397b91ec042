use Rattle.misere_theory.proofs.Verdicts.{never_fails, accepted_from_no_failure, accepted_or_fails}
use Rattle.misere_theory.proofs.certificates.accepted_certificates_obey_the_rule.Goals as goal

pub returns : goal.returns
returns g = record {
  obeys = never_fails;
  accepted = accepted_from_no_failure;
  either = accepted_or_fails;
}
