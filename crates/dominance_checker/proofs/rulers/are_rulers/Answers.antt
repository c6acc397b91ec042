use Rattle.std.proofs.Common.{rules, arith}
use Rattle.dominance_checker.proofs.Laps.{rulers}
use Rattle.dominance_checker.proofs.rulers.are_rulers.Goals as goal

pub returns : goal.returns
returns c = λ yes.
    rulers c.args.s c.args.ranks.now (omega arith) (omega arith) c.args.t c.args.w c.args.n
    (c.is_turning.ensures (search rules)) (c.is_waiting.ensures (search rules)) (omega arith)
    (omega arith) (c.has_lead.ensures yes)
