use Rattle.std.proofs.Common.{◌∙◌, ap, sym, ◌≡◌, true, arith}
use Rattle.pair_closure.specs.Calls.{ended_or_kept}
use Rattle.pair_closure.proofs.Taken.{Answered, answers, goes_keeps, to_member_of, spent_to_member}
use Rattle.pair_closure.proofs.closure.Closure.grow_to_member.Given.{Over}
use Rattle.pair_closure.proofs.closure.Closure.grow_to_member.Goals as goal

answered : (g : Over) (c : goal.After-standing g)
    → Answered (ended_or_kept c.args.self.now) c.args.units c.standing.result c.args.self.now
    c.turn_to_member.new.self
answered g c =
    answers (ended_or_kept c.args.self.now) c.args.units _ _ c.standing.result
    (sym (ap (λ z. z.failed) c.self.view_is) ∙ c.if-self.false) c.turn_to_member.ensures
    c.standing.ensures.refused

pub returns-clause-grows : goal.returns-clause-grows
returns-clause-grows g c = (answered g c).grows

pub returns-clause-turns : goal.returns-clause-turns
returns-clause-turns g c =
    to_member_of c.args.units _ _ c.standing.result (answered g c).grows

pub returns-clause-refused : goal.returns-clause-refused
returns-clause-refused g c = (answered g c).refused

pub returns-clause-data : goal.returns-clause-data
returns-clause-data g c = (answered g c).same_data

pub returns-clause-kept : goal.returns-clause-kept
returns-clause-kept g c = goes_keeps _ _ _ c.turn_to_member.ensures

pub returns-clause-costs : goal.returns-clause-costs
returns-clause-costs g c = (answered g c).costs

pub returns-clause-spent : goal.returns-clause-spent
returns-clause-spent g c =
    λ e same. spent_to_member c.args.units _ _ c.standing.result _ (answered g c).grows e
    (c.standing.ensures.more e) same

pub returns-clause-spent_range : goal.returns-clause-spent_range
returns-clause-spent_range g c = (answered g c).spent_range

pub returns-then-self-clause-refused : goal.returns-then-self-clause-refused
returns-then-self-clause-refused g c =
    let p = c.args.self.now in
    let failed : p.failed ≡ true = sym (ap (λ z. z.failed) c.self.view_is) ∙ c.if-self.true in
    (0, omega arith, ap (λ b. record p { failed = b }) failed)
