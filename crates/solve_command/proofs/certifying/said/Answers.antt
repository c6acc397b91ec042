use Rattle.std.proofs.Common.{rules, ◌≢◌}
use Rattle.solve_command.proofs.certifying.said.Goals as goal

pub returns-else-told-eq0 : goal.returns-else-told-eq0
returns-else-told-eq0 c = λ bytes limit h.
    let other : c.args.told.status ≢ 0 = search rules in
    rw c.no.ensures.succeeds (rw c.no.ensures.text (c.args.told.status, h.1 other))
