use Rattle.dominance_checker.proofs.Claimed.{same_labels}
use Rattle.dominance_checker.proofs.laws.claims_are_by_ranks.Goals as goal

pub returns : goal.returns
returns g s ranks label some first again = same_labels s ranks some label first again
