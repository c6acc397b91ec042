use Rattle.std.proofs.Common.{rules, arith}
use Rattle.dominance_checker.proofs.Heights.{all_rulers}
use Rattle.dominance_checker.proofs.elements.are_all_made.Goals as goal

pub returns : goal.returns
returns c = λ yes.
    all_rulers c.args.s c.args.ranks.now (omega arith) (omega arith) c.args.low (omega arith)
    (c.have_tight.ensures yes)
    (λ m l h. c.have_lasting.ensures (search rules) m l (omega arith))
    c.args.t c.args.w (c.is_turning.ensures (search rules)) (c.is_waiting.ensures (search rules))
