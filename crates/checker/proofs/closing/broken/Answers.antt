use Rattle.std.proofs.Common.{◌<◌, length, subst, inl, inr, arith}
use Rattle.check_machine.specs.Rules.{Breaks}
use Rattle.checker.proofs.HeldLemmas.{last_obeys}
use Rattle.checker.proofs.closing.broken.Goals as goal

pub overflow_sub-newest : goal.overflow_sub-newest
overflow_sub-newest g c =
    let some : 0 < length c.args.closure.now.state.held =
    c.requires (let a = c.ever.ensures in let l = c.if-ever.false in omega arith) in
    let n = c.kept-newest.ensures in
    omega arith

pub member-requires : goal.member-requires
member-requires g c =
    let some : 0 < length c.args.closure.now.state.held =
    c.requires (let a = c.ever.ensures in let l = c.if-ever.false in omega arith) in
    let n = c.kept-newest.ensures in
    omega arith

pub returns-then-obeys-clause-none : goal.returns-then-obeys-clause-none
returns-then-obeys-clause-none g c = λ _.
    last_obeys c.args.inside.now c.args.closure.now.state.held c.kept-newest.result c.member.result.now
    c.obeys.result c.kept-newest.ensures c.member.ensures c.if-obeys.true c.obeys.ensures.yes

pub returns-clause-some : goal.returns-clause-some
returns-clause-some g c =
    let some : 0 < length c.args.closure.now.state.held =
    c.requires (let a = c.ever.ensures in let l = c.if-ever.false in omega arith) in
    let n = c.kept-newest.ensures in
    let a = c.ever.ensures in
    let l = c.if-ever.false in
    let breaks : Breaks c.args.inside.now c.member.result.now =
    elim c.obeys.ensures.no [ inl t ↦ absurd (cc) | inr h ↦ h ] in
    record {
      more = omega arith;
      held = omega arith;
      last = omega arith;
      breaks = subst (Breaks c.args.inside.now) c.member.ensures breaks;
    }
