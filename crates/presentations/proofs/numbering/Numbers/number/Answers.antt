-- The class has a number already, or gets the next one: numbers and classes stay each other's
-- inverses.
use Rattle.std.proofs.Common.{ap}
use Rattle.presentations.proofs.Faults.{is-fault}
use Rattle.presentations.proofs.numbering.Numbers.number.Goals as goal

pub returns-in_err-push : goal.returns-in_err-push
returns-in_err-push g c =
    rw (is-fault _ _ c.from_residual.ensures.1) (record {
      assigned = tt;
      places = ap (λ z. z.places) c.self.view_is;
      full = λ e. cc;
      only = (λ e. cc, λ e. cc);
    })

pub returns-in_err-push-2 : goal.returns-in_err-push-2
returns-in_err-push-2 g c =
    rw (is-fault _ _ c.from_residual-in_err-push-2.ensures.1) (record {
      assigned = tt;
      places = ap (λ z. z.places) c.self.view_is;
      full = λ e. cc;
      only = (λ e. cc, λ e. cc);
    })
