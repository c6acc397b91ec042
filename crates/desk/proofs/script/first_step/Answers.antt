use Rattle.std.proofs.Common.{◌∙◌, List, ℕ, subst, sym}
use Rattle.std.proofs.lemmas.Result.{err_from_is_err_and}
use Rattle.desk.specs.Steps.{Spells}
use Rattle.desk.proofs.Cuts.{cut_once, not_cut}
use Rattle.desk.proofs.Lines.{same_fault}
use Rattle.desk.proofs.script.first_step.Goals as goal

pub returns-in_default-clause-other : goal.returns-in_default-clause-other
returns-in_default-clause-other g c =
    λ e line rest step is lacks s. not_cut 10 c.args.bytes.now line rest c.in_default.ensures is

pub returns-in_err-step-clause-other : goal.returns-in_err-step-clause-other
returns-in_err-step-clause-other g c =
    let p = err_from_is_err_and c.from_residual.result c.from_residual.ensures.1 in
    rw (p.1, p.2) (λ e line rest step is lacks s.
    let same =
    (cut_once 10 line c.in-Some.line.now rest c.in-Some.rest.now lacks c.in-Some.ensures.1
    (sym is ∙ c.in-Some.ensures.0)).0 in
    c.in_err-step.ensures.other (same_fault _ _ e) step
    (subst (λ (l : List ℕ). Spells l step) same s))
