use Rattle.std.proofs.Common.{◌≡◌, inl, refl, subst, true, Bool}
use Rattle.solve_command.specs.Solved.{Solves}
use Rattle.solve_library.proofs.Handed.{certificate}
use Rattle.solve_library.proofs.solving.solved.Goals as goal

pub returns-in-Ok-true-clause-tells : goal.returns-in-Ok-true-clause-tells
returns-in-Ok-true-clause-tells c =
    let said = c.in-Ok-true.field-0 in
    let succeeds : said.succeeds ≡ true = cc in
    inl (
      refl,
      certificate c.args.code.now said.text.items c.args.asked c.in-Some.bounds c.in-Some.ensures.bounds
          (subst (λ (b : Bool). Solves c.args.code.now c.in-Some.bounds said.text.items b) succeeds c.in-Ok-true.ensures.says),
    )
