use Rattle.std.proofs.Common.{◌≡◌, ◌∙◌, refl, sym, ap, ap₂}
use Rattle.std.specs.Prelude.{is_err}
use Rattle.transition_algebra.specs.Work.{worked}
use Rattle.transition_algebra.proofs.Results.{of_ok}
use Rattle.transition_algebra.proofs.Finished.{done_over}
use Rattle.transition_algebra.proofs.heap_job.HeapJob.work.Goals as goal

pub returns-clause-done : goal.returns-clause-done
returns-clause-done g c =
    let j = c.self.inside in
    let over =
    done_over j.code j.table j.phi c.advance-made.new.self c.advance-made.new.pairs.items
    c.advance-made.ensures.goes_on.trial in
    (λ h. over.0 (c.is_over.ensures.0 h), λ e. c.is_over.ensures.1 (over.1 e))

pub returns-clause-worked : goal.returns-clause-worked
returns-clause-worked g c =
    let j = c.self.inside in
    let fine = ap is_err c.in_ok-made.was in
    let refused : c.is_err-self-inside.result ≡ j.refused =
    c.is_err-self-inside.ensures.value ∙ fine ∙ sym c.if-self.false in
    let all = of_ok c.advance-made.result c.advance-made.ensures.all fine refl in (
      sym (ap (λ v. v.refused) c.self.view_is) ∙ c.if-self.false,
      ap₂ (λ spent refused. record {
        code = j.code;
        table = j.table;
        phi = j.phi;
        spent = spent;
        refused = refused;
      }) all refused ∙ ap (λ v. worked v c.args.units) c.self.view_is,
    )
