-- What a function returned, beside what reading on lists gives. This project's own.
use Rattle.std.specs.Prelude.{◌≡◌, Option, Some, None, Result, Ok, Err}
use Rattle.certificate_lines.specs.declared.fault.TextFault.{TextFault}
use Rattle.certificate_lines.specs.declared.fault.TextFault.TheVariants.{Text, Memory}

-- Text only where reading gives nothing; want of memory says nothing of the text
abbrev pub Fails : {Y : Type 0} → TextFault → Option Y → Type 0
Fails Memory read = Unit {0}
Fails Text read = read ≡ None

-- what a function returned, seen by view, is what reading gives, unless memory ran out
abbrev pub Gives : {X Y : Type 0} → (X → Y) → Result X TextFault → Option Y → Type 0
Gives view (Ok x) read = read ≡ Some (view x)
Gives view (Err e) read = Fails e read
