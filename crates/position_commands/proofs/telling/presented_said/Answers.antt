use Rattle.std.proofs.Common.{◌∙◌, subst}
use Rattle.label_players.specs.declared.whole_telling.Separation.{Separation}
use Rattle.label_players.specs.Told.{IsTelling}
use Rattle.position_commands.specs.Apart.SaysApartOfPresented.{Apart}
use Rattle.position_commands.proofs.telling.presented_said.Goals as goal

pub returns-in_ok-apart_text-in-By : goal.returns-in_ok-apart_text-in-By
returns-in_ok-apart_text-in-By c =
    Apart c.in-By.third c.in-By.one c.in-By.other
    (subst (λ (t : Separation _). IsTelling c.args.quotient.now c.args.first.now c.args.second.now t) c.in-By.is
    c.in_ok-presented_apart.ensures)
    (c.done-in-By.ensures.text ∙ c.in_ok-apart_text-in-By.ensures) c.done-in-By.ensures.succeeds
