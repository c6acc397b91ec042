use Rattle.misere_theory.proofs.OneCertificate.{accepted_once, full_once}
use Rattle.misere_theory.proofs.certificates.accepted_certificates_are_unique.Goals as goal

pub returns-clause-one : goal.returns-clause-one
returns-clause-one g = accepted_once

pub returns-clause-full : goal.returns-clause-full
returns-clause-full g = full_once
