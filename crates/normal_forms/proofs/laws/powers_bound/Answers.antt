use Rattle.normal_forms.proofs.Finite.{listed}
use Rattle.normal_forms.proofs.laws.powers_bound.Goals as goal

pub returns : goal.returns
returns c = listed
