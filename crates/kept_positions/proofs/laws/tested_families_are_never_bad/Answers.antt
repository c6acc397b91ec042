use Rattle.std.proofs.Common.{◌≡◌, true}
use Rattle.kept_positions.proofs.Lifting.{none_bad_of_families}
use Rattle.kept_positions.proofs.laws.tested_families_are_never_bad.Goals as goal

pub returns : goal.returns
returns g _ labels heaps code c b t u k part monoid each says turns tested =
    none_bad_of_families (λ x. labels x ≡ true) c monoid (λ n. heaps n ≡ true) each code part b t k says u
    (λ _ h x _ l lt. turns x h l lt) tested
