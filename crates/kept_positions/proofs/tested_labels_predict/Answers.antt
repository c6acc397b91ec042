use Rattle.std.proofs.Common.{◌≡◌, true}
use Rattle.kept_positions.proofs.TestedLabels.{predicted}
use Rattle.kept_positions.proofs.tested_labels_predict.Goals as goal

pub returns : goal.returns
returns g _ labels heaps code c t = predicted (λ x. labels x ≡ true) (λ n. heaps n ≡ true) code c t
