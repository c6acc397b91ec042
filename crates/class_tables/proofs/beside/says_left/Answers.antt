use Rattle.heap_options.specs.Exact.{heaps_of}
use Rattle.presented_tables.proofs.Mapped.{if-some}
use Rattle.class_tables.proofs.Said.{said-is}
use Rattle.class_tables.proofs.beside.says_left.Goals as goal

pub returns : goal.returns
returns g c =
    if-some _ _ c.says_word.result c.says_word.ensures
    (λ b s. said-is c.args.p.now c.args.folds.now c.args.q.now _ (heaps_of c.args.left) b c.in_ok-left_word.ensures s)
