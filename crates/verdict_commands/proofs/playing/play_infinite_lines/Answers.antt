use Rattle.std.proofs.Common.{ap, inr, refl, subst}
use Rattle.std.proofs.lemmas.Result.{IfErr-weaker, IfOk-weaker}
use Rattle.command_results.specs.Lines.{AreLinesOf, IsLinesCause}
use Rattle.given_quotients.specs.Checks.{Failed}
use Rattle.position_commands.proofs.Answered.{answers_given}
use Rattle.verdict_commands.proofs.playing.play_infinite_lines.Goals as goal

pub returns-clause-plays : goal.returns-clause-plays
returns-clause-plays g c =
    IfOk-weaker c.lines_said.result _ _
    (λ s says. answers_given _ _ _ _ c.in_ok-found.found s.text.items s.succeeds
    (ap g.S.Source.left (c.in_ok-found.ensures.input refl)) c.in_ok-found.ensures.found says)
    c.lines_said.ensures.says

pub returns-clause-stops : goal.returns-clause-stops
returns-clause-stops g c =
    IfErr-weaker c.lines_said.result _ _
    (λ stop cause. inr (
      subst (λ i. IsLinesCause (AreLinesOf (g.S.Source.left i)) (g.S.Source.failures i)
          (g.S.Source.failures c.lines_said.new.input) stop)
          (c.in_ok-found.ensures.input refl) cause,
      ap (λ (f : Failed). f.files) c.in_ok-found.ensures.succeeds,
    ))
    c.lines_said.ensures.stops
