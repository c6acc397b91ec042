use Rattle.own_quotients.proofs.certifying.certify.Goals as goal

pub returns-in-Err-clause-refused : goal.returns-in-Err-clause-refused
returns-in-Err-clause-refused c = c.in-Err.ensures.fault c.args.limit
