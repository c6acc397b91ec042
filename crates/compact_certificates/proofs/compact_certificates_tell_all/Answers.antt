use Rattle.compact_certificates.proofs.Back.{all_told}
use Rattle.compact_certificates.proofs.compact_certificates_tell_all.Goals as goal

pub returns : goal.returns
returns g c d t u f h e = all_told c d t u f h e
