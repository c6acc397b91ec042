use Rattle.presented_checker.proofs.checking.present_endless.Goals as goal

pub returns-in-Err-clause-no : goal.returns-in-Err-clause-no
returns-in-Err-clause-no g c = c.fault_of_tables.ensures c.args.said.now c.in-Err.ensures.fault
