use Rattle.dominance_checker.specs.Ranks.{label_by}
use Rattle.dominance_checker.proofs.answer.is_accepted.Goals as goal

pub returns-clause-indistinguishable : goal.returns-clause-indistinguishable
returns-clause-indistinguishable g c = λ yes.
    c.triples_are_the_quotient.ensures.indistinguishable c.args.code.now
    (label_by c.args.s c.args.ranks.now) (c.in_ok-is_tested_claim.ensures.right yes)
    (c.in_ok-is_tested_claim.ensures.rulers yes)

pub returns-clause-infinite : goal.returns-clause-infinite
returns-clause-infinite g c = λ yes.
    c.triples_are_the_quotient.ensures.infinite c.args.code.now
    (label_by c.args.s c.args.ranks.now) (c.in_ok-is_tested_claim.ensures.right yes)
    (c.in_ok-is_tested_claim.ensures.rulers yes)

pub returns-clause-no_claim : goal.returns-clause-no_claim
returns-clause-no_claim g c = λ yes.
    c.triples_are_the_quotient.ensures.no_claim c.args.code.now
    (label_by c.args.s c.args.ranks.now) (c.in_ok-is_tested_claim.ensures.right yes)
    (c.in_ok-is_tested_claim.ensures.rulers yes)
