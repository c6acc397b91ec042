use Rattle.normal_forms.proofs.Steps.{forms}
use Rattle.normal_forms.proofs.laws.words_have_forms.Goals as goal

pub returns : goal.returns
returns c = forms
