use Rattle.std.proofs.Common.{arith}
use Rattle.monoid_table.proofs.Checked.{monoid-holds}
use Rattle.monoid_table.proofs.triples.next_run.Goals as goal

pub returns-clause-passed : goal.returns-clause-passed
returns-clause-passed c =
    λ i from before. monoid-holds _ _ (c.requires.laws c.if-not-lawful.false) i (omega arith)

pub returns-clause-last : goal.returns-clause-last
returns-clause-last c = monoid-holds _ _ (c.requires.laws c.if-not-lawful.false) _ (omega arith)
