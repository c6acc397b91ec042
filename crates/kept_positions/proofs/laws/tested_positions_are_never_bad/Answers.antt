use Rattle.std.proofs.Common.{◌≡◌, true}
use Rattle.kept_positions.proofs.Lifting.{none_bad}
use Rattle.kept_positions.proofs.laws.tested_positions_are_never_bad.Goals as goal

pub returns : goal.returns
returns g _ labels heaps code c b t k part monoid each says tested =
    none_bad (λ x. labels x ≡ true) c monoid (λ n. heaps n ≡ true) each code part b t k says tested
