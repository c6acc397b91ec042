use Rattle.std.proofs.Common.{◌∙◌, ap}
use Rattle.position_commands.specs.Lines.{triple_line}
use Rattle.position_commands.specs.Values.TellsWholeValue.{Light}
use Rattle.position_commands.proofs.valuing.whole_said.Goals as goal

pub returns : goal.returns
returns c =
    Light c.whole_outcome.result c.whole_outcome.ensures
    (c.done.ensures.text ∙ c.in_ok-text.ensures
    ∙ ap (λ t. triple_line t c.whole_outcome.result) c.in-Some.ensures)
    c.done.ensures.succeeds
