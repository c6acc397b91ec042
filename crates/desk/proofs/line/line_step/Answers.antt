use Rattle.std.proofs.Common.{◌∙◌, List, ℕ, subst, sym}
use Rattle.desk.specs.Steps.{SpellsTail, client_of}
use Rattle.desk.proofs.Lines.{clients, heads}
use Rattle.desk.proofs.line.line_step.Goals as goal

pub returns-in_default-cut-2-clause-other : goal.returns-in_default-cut-2-clause-other
returns-in_default-cut-2-clause-other g c = λ e step s.
    let same = sym c.in-Ok.ensures.cases.0 ∙ c.in-Some.ensures.0 in
    c.in_default-cut-2.ensures _ _
    (heads c.args.line.now c.in-Some.word.now c.in-Some.rest.now step same c.in-Some.ensures.1
    s).1

pub returns-in_default-client_of-clause-other : goal.returns-in_default-client_of-clause-other
returns-in_default-client_of-clause-other g c = λ e step s.
    let same = sym c.in-Ok.ensures.cases.0 ∙ c.in-Some.ensures.0 in
    c.in_default-client_of.ensures (client_of step) s.client
    (clients c.args.line.now c.in-Some.word.now c.in-Some.rest.now c.in-Some-cut.client.now
    c.in-Some-cut.tail.now step same c.in-Some.ensures.1
    c.in-Some-cut.ensures.0 c.in-Some-cut.ensures.1 s).0

pub returns-clause-other : goal.returns-clause-other
returns-clause-other g c = λ e step s.
    let same = sym c.in-Ok.ensures.cases.0 ∙ c.in-Some.ensures.0 in
    let tail =
    (clients c.args.line.now c.in-Some.word.now c.in-Some.rest.now c.in-Some-cut.client.now
    c.in-Some-cut.tail.now step same c.in-Some.ensures.1
    c.in-Some-cut.ensures.0 c.in-Some-cut.ensures.1 s).1 in
    c.step_behind.ensures.other e step
    (heads c.args.line.now c.in-Some.word.now c.in-Some.rest.now step same c.in-Some.ensures.1
    s).0
    (subst (λ (t : List ℕ). SpellsTail t step) tail s.spelled)
