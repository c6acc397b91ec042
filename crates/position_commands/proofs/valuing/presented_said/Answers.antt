use Rattle.std.proofs.Common.{◌∙◌}
use Rattle.position_commands.specs.Values.TellsForm.{Form}
use Rattle.position_commands.proofs.valuing.presented_said.Goals as goal

pub returns : goal.returns
returns c =
    Form c.presented_form-form.result c.presented_outcome.result c.presented_form-form.ensures
    c.presented_outcome.ensures (c.done.ensures.text ∙ c.in_ok-text.ensures) c.done.ensures.succeeds
