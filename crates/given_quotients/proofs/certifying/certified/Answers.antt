use Rattle.std.proofs.Common.{ℕ, List, subst}
use Rattle.given_quotients.specs.Checks.{Judges}
use Rattle.given_quotients.proofs.Given.{finds_all}
use Rattle.given_quotients.proofs.certifying.certified.Goals as goal

pub returns-clause-found : goal.returns-clause-found
returns-clause-found g c =
    finds_all c.verdicts_are_true.ensures _ c.in_ok-bytes.bytes.items c.args.limit
    c.in_ok-found.found c.in_ok-bytes.ensures.bytes
    (subst (λ (bytes : List ℕ). Judges bytes c.args.limit c.in_ok-found.found)
    c.deref.ensures.value c.in_ok-found.ensures)
