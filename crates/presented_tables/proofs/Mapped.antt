-- What holds of a value that an answer has.
use Rattle.std.proofs.Common.{Option, Some, None}
use Rattle.std.specs.Prelude.{IfSome}

pub if-some : {X : Type 0} (P Q : X → Type 0) (r : Option X) → IfSome r P → ((y : X) → P y → Q y) → IfSome r Q
if-some P Q None h f = tt
if-some P Q (Some y) h f = f y h
