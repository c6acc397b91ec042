use Rattle.std.proofs.Common.{refl}
use Rattle.presentations.proofs.Faults.{is-fault}
use Rattle.presentations.proofs.numbering.Numbers.new.Goals as goal

pub returns-in_err-numbers : goal.returns-in_err-numbers
returns-in_err-numbers g c =
    rw (is-fault _ _ c.from_residual.ensures.1) (record { state = tt; refused = refl })

pub returns-in_err-push : goal.returns-in_err-push
returns-in_err-push g c =
    rw (is-fault _ _ c.from_residual-in_err-push.ensures.1) (record { state = tt; refused = refl })
