use Rattle.compact_certificates.proofs.Following.{accepted_follows}
use Rattle.certificate_text.proofs.certificates_are_writable.Goals as goal

pub returns-clause-accepted : goal.returns-clause-accepted
returns-clause-accepted g c a short = record {
  in_ranges = a.in_ranges;
  follows = λ third. accepted_follows c a;
  short = λ third. short;
}
