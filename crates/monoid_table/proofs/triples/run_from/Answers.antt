use Rattle.std.proofs.Common.{◌≡◌, ◌+◌, ◌-◌, ◌%◌, ap, ◌∙◌, sym, arith}
use Rattle.monoid_table.specs.Turns.{triple_holds}
use Rattle.monoid_table.proofs.Checked.{run-passed, run-breach, pair-breach, run-within}
use Rattle.monoid_table.proofs.triples.run_from.Goals as goal

pub returns-then-not-holds_at_pair-clause-last : goal.returns-then-not-holds_at_pair-clause-last
returns-then-not-holds_at_pair-clause-last c =
    let at : c.args.spent + 1 - 1 ≡ c.args.spent = omega arith in
    ap (triple_holds c.args.order c.args.rows.now) at
    ∙ pair-breach _ _ _ (sym c.holds_at_pair.ensures ∙ c.if-not-holds_at_pair.true)

pub returns-then-stop-to-clause-within : goal.returns-then-stop-to-clause-within
returns-then-stop-to-clause-within c =
    let room = run-within c.args.order c.args.spent c.requires.shaped.positive c.requires.going in
    (omega arith, omega arith, omega arith)

pub returns-then-stop-to-clause-passed : goal.returns-then-stop-to-clause-passed
returns-then-stop-to-clause-passed c = λ i from before.
    run-passed _ _ c.args.spent c.first_breach-stop.result c.requires.shaped.positive (omega arith)
    (sym c.holds_at_pair.ensures ∙ c.if-not-holds_at_pair.false) c.first_breach-stop.ensures.alike i
    from (omega arith)

pub returns-then-stop-to-clause-last : goal.returns-then-stop-to-clause-last
returns-then-stop-to-clause-last c =
    let at : c.args.spent + (c.first_breach-stop.result - c.args.spent % c.args.order + 1) - 1
    ≡ c.args.spent + (c.first_breach-stop.result - c.args.spent % c.args.order) = omega arith in
    ap (triple_holds c.args.order c.args.rows.now) at
    ∙ run-breach _ _ c.args.spent c.first_breach-stop.result c.requires.shaped.positive
    (omega arith) (omega arith) (c.first_breach-stop.ensures.breach (omega arith))

pub returns-clause-within : goal.returns-clause-within
returns-clause-within c =
    let room = run-within c.args.order c.args.spent c.requires.shaped.positive c.requires.going in
    (omega arith, omega arith, omega arith)

pub returns-clause-passed : goal.returns-clause-passed
returns-clause-passed c = λ i from before.
    run-passed _ _ c.args.spent c.first_breach-stop.result c.requires.shaped.positive (omega arith)
    (sym c.holds_at_pair.ensures ∙ c.if-not-holds_at_pair.false) c.first_breach-stop.ensures.alike i
    from (omega arith)

pub returns-clause-last : goal.returns-clause-last
returns-clause-last c =
    run-passed _ _ c.args.spent c.first_breach-stop.result c.requires.shaped.positive (omega arith)
    (sym c.holds_at_pair.ensures ∙ c.if-not-holds_at_pair.false) c.first_breach-stop.ensures.alike _
    (omega arith) (omega arith)
