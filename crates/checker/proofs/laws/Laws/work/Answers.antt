use Rattle.std.proofs.Common.{subst, sym, ap, ◌∙◌, Ok, true, arith}
use Rattle.monoid_table.specs.Turns.{turns}
use Rattle.monoid_table.specs.Faults.{answer_of}
use Rattle.certificate.specs.Fields.{IsWhole}
use Rattle.check_machine.specs.Turns.Phase.{Keys}
use Rattle.check_machine.proofs.LawTurns.{laws_held, laws_broken}
use Rattle.check_machine.proofs.UnitLaws.{not-over}
use Rattle.check_machine.proofs.TableLaws.{table_lawful}
use Rattle.checker.specs.Parts.{parts_of, whole_of}
use Rattle.checker.proofs.LawStages.{same_grid, spent_range, still_under, still_at, laws_come}
use Rattle.checker.proofs.laws.Laws.work.Goals as goal

pub invariant_of-result : goal.invariant_of-result
invariant_of-result g c =
    let s = c.self.inside in (
      still_under s.lines s.code s.phi s.job c.work-looked.new.self _ c.work-looked.ensures.state
          c.self.invariant.0,
      not-over c.work-looked.new.self
          (sym c.work-looked.ensures.answer
          ∙ (c.in-Ok-false.is ∙ ap Ok c.in-Ok-false.field-0-test)),
    )

pub invariant_of-new : goal.invariant_of-new
invariant_of-new g c =
    let s = c.self.inside in
    let whole =
    subst (λ t. IsWhole (parts_of s.lines s.code t s.phi)) (sym c.finish.ensures.value)
    (still_under s.lines s.code s.phi s.job c.work-looked.new.self _ c.work-looked.ensures.state
    c.self.invariant.0).whole in
    record { whole = whole; lawful = table_lawful _ whole c.finish.ensures.table }

pub returns-in-Ok-false : goal.returns-in-Ok-false
returns-in-Ok-false g c = λ bytes limit.
    let s = c.self.inside in
    let J = c.work-looked.new.self in
    let at = c.work-looked.ensures.state in
    let r = spent_range s.lines s.code s.phi s.job J _ at c.self.invariant.0 in
    let o =
    not-over J
    (sym c.work-looked.ensures.answer ∙ (c.in-Ok-false.is ∙ ap Ok c.in-Ok-false.field-0-test)) in
    let p = c.turns_add_up.ensures.spends c.args.left.now s.job (rw at at o) in
    let d = ap (λ j. j.spent) at in
    laws_come _ s.job _ c.self.view_is c.self.invariant.1 bytes limit _ _ _ (omega arith)
    (still_at s.lines s.code s.phi s.job J _ at o) (λ h. absurd (omega arith))

pub returns-in-Ok-true : goal.returns-in-Ok-true
returns-in-Ok-true g c = λ bytes limit.
    let s = c.self.inside in
    let J = c.work-looked.new.self in
    let at = c.work-looked.ensures.state in
    let r = spent_range s.lines s.code s.phi s.job J _ at c.self.invariant.0 in
    let d = ap (λ j. j.spent) at in
    let a =
    ap answer_of (sym at)
    ∙ (sym c.work-looked.ensures.answer ∙ (c.in-Ok-true.is ∙ ap Ok c.in-Ok-true.field-0-test)) in
    laws_come _ s.job _ c.self.view_is c.self.invariant.1 bytes limit _ _ _ (omega arith)
    (ap Keys (c.new.ensures.value
    ∙ ap (λ t. record { certificate = whole_of s.lines s.code t s.phi; next = 1; rising = true })
    (c.finish.ensures.value ∙ same_grid s.lines s.code s.phi s.job J _ at))
    ∙ sym (laws_held _ (turns c.args.left.now s.job) a)) (λ h. omega arith)

pub returns-in-Err : goal.returns-in-Err
returns-in-Err g c = λ bytes limit.
    let s = c.self.inside in
    let J = c.work-looked.new.self in
    let at = c.work-looked.ensures.state in
    let r = spent_range s.lines s.code s.phi s.job J _ at c.self.invariant.0 in
    let d = ap (λ j. j.spent) at in
    let a = ap answer_of (sym at) ∙ (sym c.work-looked.ensures.answer ∙ c.in-Err.is) in
    laws_come _ s.job _ c.self.view_is c.self.invariant.1 bytes limit _ _ _ (omega arith)
    (sym (laws_broken _ (turns c.args.left.now s.job) _ a)) (λ h. omega arith)
