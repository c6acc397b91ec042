use Rattle.class_tables.proofs.separating.differ.Goals as goal

pub returns-then-differ_at : goal.returns-then-differ_at
returns-then-differ_at c = λ _ few. (c.loop-i.i, c.differ_at.ensures c.if-differ_at.true few)
