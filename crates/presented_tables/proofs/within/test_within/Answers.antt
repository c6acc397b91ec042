use Rattle.std.proofs.Common.{refl}
use Rattle.presented_tables.proofs.within.test_within.Goals as goal

pub returns-clause-relations : goal.returns-clause-relations
returns-clause-relations g c = c.if-not-are_relations_in.ensures.0 refl
