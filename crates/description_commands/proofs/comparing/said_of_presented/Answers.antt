use Rattle.std.proofs.Common.{subst}
use Rattle.description_commands.specs.Alike.{AreAlike}
use Rattle.description_commands.proofs.Isomorphic.{alike_isomorphic, says_isomorphic}
use Rattle.description_commands.proofs.comparing.said_of_presented.Goals as goal

pub returns-then-are_alike : goal.returns-then-are_alike
returns-then-are_alike c =
    let one = c.args.a.now in
    let other = c.args.b.now in
    let alike =
    subst (λ p. AreAlike p other.said) c.said.ensures.value
    (subst (λ q. AreAlike c.said.result.now q) c.said-2.ensures.value
    (c.are_alike.ensures.0 c.if-are_alike.true))
    in
    says_isomorphic one other c.yes_line.result (alike_isomorphic one.said other.said alike)
    c.yes_line.ensures.text c.yes_line.ensures.succeeds
