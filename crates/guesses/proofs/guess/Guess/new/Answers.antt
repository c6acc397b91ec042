use Rattle.std.proofs.Common.{◌≡◌, ◌↔◌, true, subst}
use Rattle.quotient_search.specs.Evidence.{IsShown}
use Rattle.guesses.specs.Guesses.{IsPeriodOrNone}
use Rattle.guesses.proofs.guess.Guess.new.Goals as goal

pub returns-clause-period : goal.returns-clause-period
returns-clause-period g c =
    let r = c.period_of-start.result in
    record {
      soonest = subst (λ h. IsPeriodOrNone h r.0 r.1) c.deref.ensures.value c.period_of-start.ensures;
      as_shown =
          subst
          (λ h. (c.is_shown-shown.result ≡ true) ↔ IsShown c.args.code.now h r.0 r.1)
          c.deref-2.ensures.value c.is_shown-shown.ensures;
    }
