-- The numbers of the faults of presentations. This project's own.
use Rattle.std.specs.Prelude.{ℕ}
use Rattle.presentations.specs.declared.fault.PresFault.{PresFault}
use Rattle.presentations.specs.declared.fault.PresFault.TheVariants.{Text, Unbounded, Limit, Memory}

abbrev pub number_of : PresFault → ℕ
number_of Text = 1
number_of Unbounded = 2
number_of Limit = 3
number_of Memory = 9
