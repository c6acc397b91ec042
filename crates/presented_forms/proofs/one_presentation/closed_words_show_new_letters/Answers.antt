use Rattle.std.proofs.Common.{◌≡◌, true}
use Rattle.presented_forms.proofs.Closed.{is-new}
use Rattle.presented_forms.proofs.one_presentation.closed_words_show_new_letters.Goals as goal

pub returns : goal.returns
returns g = λ relations are i among none closed standard out w long within r.
    is-new relations are i (λ v. among v ≡ true) none closed standard out w long within r
