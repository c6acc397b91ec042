-- The numbers under which a search's giving up is printed. This project's own.
use Rattle.std.specs.Prelude.{ℕ}
use Rattle.quotient_finder.specs.declared.gave_up.GaveUp.{GaveUp}
use Rattle.quotient_finder.specs.declared.gave_up.GaveUp.TheVariants.{Rounds, Empty, Memory}

abbrev pub gave_up_number : GaveUp → ℕ
gave_up_number Rounds = 1
gave_up_number Empty = 2
gave_up_number Memory = 9
