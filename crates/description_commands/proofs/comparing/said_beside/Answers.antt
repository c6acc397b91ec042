use Rattle.std.proofs.Common.{◌∙◌, ◌++◌, ℕ, List, ap, codes, subst, sym}
use Rattle.description_commands.specs.Compared.{SaysFound}
use Rattle.description_commands.proofs.FoundIsomorphism.{says_found}
use Rattle.description_commands.proofs.comparing.said_beside.Goals as goal

pub returns-in_ok-b-in-Ok : goal.returns-in_ok-b-in-Ok
returns-in_ok-b-in-Ok c =
    says_found c.args.a.now c.args.found c.in-Ok.quotient c.in_ok-b-in-Ok.b c.said_of_operands.result c.in-Ok.is
    c.in_ok-b-in-Ok.ensures c.said_of_operands.ensures

pub returns-in_ok-no_of-in-Err : goal.returns-in_ok-no_of-in-Err
returns-in_ok-no_of-in-Err c =
    let said = c.in_ok-no_of-in-Err.field-0 in
    subst (λ q. SaysFound c.args.a.now q said.text.items said.succeeds) (sym c.in-Err.is) (
      c.in_ok-no_of-in-Err.ensures.text
          ∙ ap (λ (t : List ℕ). codes "second: " ++ t) c.deref.ensures.value,
      c.in_ok-no_of-in-Err.ensures.succeeds,
    )
