use Rattle.std.proofs.Common.{ℕ, ◌<◌, length, subst}
use Rattle.class_tables.proofs.Listed.{IsListedWith}
use Rattle.class_tables.proofs.listing.is_listed_at.Goals as goal

pub returns-then-is_element-clause-more : goal.returns-then-is_element-clause-more
returns-then-is_element-clause-more g c = λ t.
    subst (λ v. (i : ℕ) → i < length c.args.p.now.letters → IsListedWith c.args.p.now c.args.folds.now c.args.list.now v i)
    c.in-Some.ensures.1 (c.is_listed_with_each.ensures t)
