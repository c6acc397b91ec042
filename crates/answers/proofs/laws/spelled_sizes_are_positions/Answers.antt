use Rattle.answers.proofs.SpellLemmas.{sizes_spelled}
use Rattle.answers.proofs.laws.spelled_sizes_are_positions.Goals as goal

pub returns-clause-valued : goal.returns-clause-valued
returns-clause-valued c = sizes_spelled
