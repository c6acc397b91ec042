use Rattle.std.proofs.Common.{arith, ◌≡◌, ◌∙◌, sym}
use Rattle.std.proofs.lemmas.Fmt.{decimal_injective}
use Rattle.requests.proofs.decimals.number_between.Goals as goal

pub returns-else-least-number-clause-none : goal.returns-else-least-number-clause-none
returns-else-least-number-clause-none c = λ n low high is.
    let same : c.in_ok-number.number ≡ n =
    decimal_injective _ _ (omega arith) (omega arith) (sym c.in_ok-number.ensures.some ∙ is) in
    omega (arith, same, low, high, c.else-least-number.either)
