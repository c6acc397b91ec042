use Rattle.std.proofs.Common.{sym, ◌∙◌, arith}
use Rattle.class_tables.proofs.Indexed.{at-index}
use Rattle.class_tables.proofs.folding.cycle_at.Goals as goal

pub returns : goal.returns
returns c = c.index-folds-i.is ∙ sym (at-index c.args.folds.now c.args.i c.index-folds-i.result c.requires)
