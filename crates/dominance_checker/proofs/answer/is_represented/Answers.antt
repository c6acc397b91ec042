use Rattle.std.proofs.Common.{rules}
use Rattle.dominance_checker.specs.Ranks.{label_by}
use Rattle.dominance_checker.proofs.answer.is_represented.Goals as goal

pub returns : goal.returns
returns g c = λ yes.
    c.triples_are_the_quotient.ensures.represents c.args.code.now
    (label_by c.args.s c.args.ranks.now) (c.in_ok-is_tested_claim.ensures.right yes)
    (c.makes_all.ensures (search rules))
