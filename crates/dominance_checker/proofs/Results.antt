-- What is known of a result that is Ok.
use Rattle.std.specs.Prelude.{Result, Ok, Err, IfOk}

pub if_ok_more : {X E : Type 0} (P Q : X → Type 0) (r : Result X E) → ((x : X) → P x → Q x)
    → IfOk r P → IfOk r Q
if_ok_more P Q (Ok x) f h = f x h
if_ok_more P Q (Err e) f h = h
