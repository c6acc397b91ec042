use Rattle.compact_certificates.proofs.Least.{same_separators}
use Rattle.compact_certificates.proofs.separators_follow.Goals as goal

pub returns-clause-follow : goal.returns-clause-follow
returns-clause-follow g c d order times portion = same_separators c d order times portion
