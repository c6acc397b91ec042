use Rattle.std.proofs.Common.{◌≡◌, true}
use Rattle.kept_positions.proofs.NoneBad.{none_is_bad}
use Rattle.kept_positions.proofs.kept_positions_are_enough.Goals as goal

pub returns : goal.returns
returns g _ labels heaps code c weight kept part monoid each keeps =
    none_is_bad (λ x. labels x ≡ true) c monoid (λ n. heaps n ≡ true) each code part weight
    (λ Z. kept Z ≡ true) keeps
