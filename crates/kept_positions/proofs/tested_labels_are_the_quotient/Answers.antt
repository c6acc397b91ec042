use Rattle.std.proofs.Common.{◌≡◌, true}
use Rattle.kept_positions.proofs.Told.{represented}
use Rattle.kept_positions.proofs.tested_labels_are_the_quotient.Goals as goal

pub returns : goal.returns
returns g _ labels heaps code c height t told reached =
    represented (λ x. labels x ≡ true) (λ n. heaps n ≡ true) code c height t told reached
