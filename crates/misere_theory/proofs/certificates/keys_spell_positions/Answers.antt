use Rattle.misere_theory.proofs.Spelled.{spelled, spelled_value}
use Rattle.misere_theory.proofs.certificates.keys_spell_positions.Goals as goal

pub returns-clause-some : goal.returns-clause-some
returns-clause-some g = spelled

pub returns-clause-value : goal.returns-clause-value
returns-clause-value g = spelled_value
