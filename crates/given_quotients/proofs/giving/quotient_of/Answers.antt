use Rattle.std.proofs.Common.{ℕ, List, subst}
use Rattle.given_quotients.specs.Given.{JudgesQuotient}
use Rattle.given_quotients.proofs.Fronts.{finds_all}
use Rattle.given_quotients.proofs.giving.quotient_of.Goals as goal

pub returns-clause-found : goal.returns-clause-found
returns-clause-found g c =
    finds_all c.verdicts_are_true.ensures _ c.in_ok-bytes.bytes.items c.args.limit
    c.in_ok-found.found c.in_ok-bytes.ensures.bytes
    (subst (λ (bytes : List ℕ). JudgesQuotient bytes c.args.limit c.in_ok-found.found)
    c.deref.ensures.value c.in_ok-found.ensures)
