use Rattle.std.proofs.Common.{◌≡◌, ◌-◌, sym, ap, ◌∙◌, false, arith}
use Rattle.monoid_table.specs.Turns.{turns, is_over}
use Rattle.check_machine.proofs.TurnLaws.{runs-of}
use Rattle.checker.proofs.LawStages.{still_under, still_at, laws_run}
use Rattle.checker.proofs.laws.Laws.go_on.Goals as goal

pub invariant_of-self : goal.invariant_of-self
invariant_of-self g c =
    let s = c.self.inside in (
      still_under s.lines s.code s.phi s.job c.go_on-looked.new.self _ c.go_on-looked.ensures.state
          c.self.invariant.0,
      c.go_on-looked.ensures.going,
    )

pub returns : goal.returns
returns g c = λ bytes limit.
    let s = c.self.inside in
    let U = c.args.left.now in
    let n = c.go_on-looked.result in
    let w = c.go_on-looked.ensures.within in
    let at = c.go_on-looked.ensures.state in
    let o : is_over (turns n s.job) ≡ false = ap is_over (sym at) ∙ c.go_on-looked.ensures.going in
    let p = c.turns_add_up.ensures.spends n s.job o in
    runs-of bytes limit n 0 U (U - n) _ _
    (laws_run _ s.job _ c.self.view_is c.self.invariant.1 bytes limit n 0 _ (omega arith)
    (still_at s.lines s.code s.phi s.job c.go_on-looked.new.self n at c.go_on-looked.ensures.going)
    (λ h. absurd (omega arith))) (omega arith) (omega arith)
