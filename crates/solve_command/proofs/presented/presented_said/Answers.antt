use Rattle.std.proofs.Common.{ℕ, Result, Vec, subst}
use Rattle.std.proofs.lemmas.Result.{IfOk-weaker}
use Rattle.presented_checker.specs.Refused.{Kept}
use Rattle.given_quotients.specs.Given.{JudgesPresented}
use Rattle.solve_command.specs.Presentations.CertifiesPresentedBy.{Right}
use Rattle.solve_command.proofs.presented.presented_said.Goals as goal

pub returns-in-Ok : goal.returns-in-Ok
returns-in-Ok g c =
    let judged =
    subst (λ (r : Result Kept (Vec ℕ _)). JudgesPresented c.args.bytes.now r) c.in-Ok.is c.in_ok-quotient.ensures in
    IfOk-weaker c.quotient_said.result _ _ (λ s says. Right c.in-Ok.quotient judged.0 judged.1 says)
    c.quotient_said.ensures
