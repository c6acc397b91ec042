use Rattle.whole_checker.proofs.checking.judge_whole.Goals as goal

pub returns-in-Ok-false-clause-no : goal.returns-in-Ok-false-clause-no
returns-in-Ok-false-clause-no g c = c.refuted.ensures c.args.bytes.now c.in_ok-text.ensures.yes
