use Rattle.std.proofs.Common.{[], ◌∷◌, ◌∙◌}
use Rattle.presented_tables.proofs.Mapped.{if-some}
use Rattle.class_tables.proofs.Said.{said-is, one-word}
use Rattle.class_tables.proofs.beside.says_heap.Goals as goal

pub returns : goal.returns
returns g c =
    if-some _ _ c.says_word.result c.says_word.ensures
    (λ b s. said-is c.args.p.now c.args.folds.now c.args.q.now _ (c.args.n ∷ []) b
    (c.heap_word.ensures ∙ one-word c.args.p.now c.requires.words c.args.n) s)
