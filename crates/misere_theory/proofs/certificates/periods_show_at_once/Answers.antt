use Rattle.misere_theory.proofs.Spelled.{serves_always}
use Rattle.misere_theory.proofs.certificates.periods_show_at_once.Goals as goal

pub returns : goal.returns
returns g c r ranges once = serves_always c ranges r once
