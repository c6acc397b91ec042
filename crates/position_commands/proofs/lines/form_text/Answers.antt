use Rattle.std.proofs.Common.{ap₂, ◌∙◌}
use Rattle.position_commands.specs.Lines.{form_pieces}
use Rattle.position_commands.proofs.lines.form_text.Goals as goal

pub returns : goal.returns
returns c =
    c.in_ok-text.ensures ∙ ap₂ form_pieces (c.as_str.ensures.value ∙ c.in_ok-word.ensures) c.letter.ensures
