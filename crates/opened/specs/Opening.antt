-- How many quotients are opened: one or none. This project's own.
use Rattle.std.specs.Prelude.{ℕ}
use Rattle.std.specs.declared.option.Option.{Option}
use Rattle.std.specs.declared.option.Option.TheVariants.{None, Some}

-- 1 if there is one, else 0
abbrev pub count_of : {X : Type 0} → Option X → ℕ
count_of None = 0
count_of (Some x) = 1
