use Rattle.std.proofs.Common.{arith, subst, ℕ, List}
use Rattle.command_results.specs.Lines.{AnswersLines}
use Rattle.solve_command.specs.Many.{AnswersCode}
use Rattle.solve_command.proofs.many.solve_lines.Goals as goal

pub returns-clause-says : goal.returns-clause-says
returns-clause-says g c =
    let lines = c.in_ok-lines.lines in (
      lines.items,
      c.in_ok-lines.ensures.bytes,
      (let few = c.in_ok-lines.ensures.bound in
          let long = lines.ok in
          omega (arith, few, long)),
      subst (λ (l : List ℕ). AnswersLines (AnswersCode c.args.bounds) l c.in_ok-said.said.text.items
          c.in_ok-said.said.succeeds) c.deref.ensures.value c.in_ok-said.ensures,
    )
