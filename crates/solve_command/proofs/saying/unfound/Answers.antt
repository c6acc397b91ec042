use Rattle.std.proofs.Common.{◌∙◌, ap}
use Rattle.solve_command.specs.Found.FindsPart.{GaveUp}
use Rattle.solve_command.proofs.saying.unfound.Goals as goal

pub returns : goal.returns
returns c =
    GaveUp c.args.why
    (ap (λ v. v.items) c.into_bytes.ensures.value ∙ c.in_ok-reason_text.ensures)
