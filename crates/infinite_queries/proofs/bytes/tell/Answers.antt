use Rattle.std.proofs.Common.{ℕ, List, length, ◌∙◌, ap, subst, sym}
use Rattle.infinite_queries.specs.Asked.{FailsAt}
use Rattle.infinite_queries.proofs.bytes.tell.Goals as goal

pub returns-clause-fails : goal.returns-clause-fails
returns-clause-fails c fits =
    subst (λ (X : List ℕ). FailsAt c.args.bytes.now X)
    (sym (c.put.ensures.front fits ∙ c.heaps.ensures.value)) c.requires

pub returns-clause-counts : goal.returns-clause-counts
returns-clause-counts c =
    (c.args.position.now, c.requires, c.put.ensures.count ∙ ap length c.heaps.ensures.value)
