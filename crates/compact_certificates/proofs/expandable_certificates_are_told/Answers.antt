use Rattle.compact_certificates.proofs.Firsts.{told_by_test, test_told}
use Rattle.compact_certificates.proofs.expandable_certificates_are_told.Goals as goal

pub returns : goal.returns
returns g c n = (told_by_test c n, test_told c n)
