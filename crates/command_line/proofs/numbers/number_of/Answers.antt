use Rattle.std.proofs.Common.{arith, ◌∙◌, sym}
use Rattle.command_line.proofs.NumberLemmas.{number_within-none, number_within-spelled}
use Rattle.command_line.proofs.numbers.number_of.Goals as goal

pub returns-in_err-number-clause-number : goal.returns-in_err-number-clause-number
returns-in_err-number-clause-number c =
    c.from_residual.ensures
    ∙ sym (number_within-none c.args.bounds c.args.text.now
    (λ n is low high. c.in_err-number.ensures.none n low high is))

pub returns-clause-number : goal.returns-clause-number
returns-clause-number c =
    let spelled = c.in_ok-number.ensures.some in
    sym (number_within-spelled c.args.bounds c.args.text.now c.in_ok-number.number
    spelled.0 (omega (arith, spelled.2)) spelled.1 spelled.2)
