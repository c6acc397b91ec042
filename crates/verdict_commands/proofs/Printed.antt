-- What holds of a value that an answer has.
use Rattle.std.proofs.Common.{Result, Ok, Err}
use Rattle.std.specs.Prelude.{IfOk}

pub if-ok : {X E : Type 0} (P Q : X → Type 0) (r : Result X E) → IfOk r P → ((x : X) → P x → Q x) → IfOk r Q
if-ok P Q (Ok x) h f = f x h
if-ok P Q (Err e) h f = tt
