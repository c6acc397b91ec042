-- What a result says where it is known which it is.
use Rattle.std.proofs.Common.{◌≡◌, true, false}
use Rattle.std.specs.Prelude.{Result, Ok, Err, OnOk, OnErr, is_err}

pub of_ok : {T E P : Type 0} (r : Result T E) → OnOk r P → is_err r ≡ false → P
of_ok (Ok x) p fine = p
of_ok (Err e) p fine = absurd (cc)

pub of_err : {T E P : Type 0} (r : Result T E) → OnErr r P → is_err r ≡ true → P
of_err (Ok x) p failed = absurd (cc)
of_err (Err e) p failed = p
