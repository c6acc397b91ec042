use Rattle.std.proofs.Common.{◌≡◌, true}
use Rattle.kept_positions.proofs.Bad.{bad_exactly}
use Rattle.kept_positions.proofs.sums_are_bad_in_both_parts.Goals as goal

pub returns : goal.returns
returns g _ labels heaps code c part monoid each x X Y l p q =
    bad_exactly (λ x. labels x ≡ true) c monoid (λ n. heaps n ≡ true) each code part x X Y l p q
