use Rattle.presented_checker.proofs.by_classes.settle_by_classes.Goals as goal

pub returns-clause-fault : goal.returns-clause-fault
returns-clause-fault g c = c.given_up.ensures c.args.p.now
