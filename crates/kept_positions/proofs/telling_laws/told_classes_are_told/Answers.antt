use Rattle.std.proofs.Common.{◌≡◌, true}
use Rattle.kept_positions.proofs.Marked.{told_labels}
use Rattle.kept_positions.proofs.telling_laws.told_classes_are_told.Goals as goal

pub returns : goal.returns
returns g _ labels c b t marks d alone told = told_labels (λ x. labels x ≡ true) c b t marks d alone told
