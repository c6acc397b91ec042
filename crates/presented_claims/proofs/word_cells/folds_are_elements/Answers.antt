use Rattle.presented_claims.proofs.Folds.{folded-element, folded-finer}
use Rattle.presented_claims.proofs.word_cells.folds_are_elements.Goals as goal

pub returns-clause-elements : goal.returns-clause-elements
returns-clause-elements g n letters relations folds w e = folded-element n letters relations folds w e

pub returns-clause-finer : goal.returns-clause-finer
returns-clause-finer g folds cycles w fine = folded-finer folds cycles w fine
