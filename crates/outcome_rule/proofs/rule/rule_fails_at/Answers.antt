use Rattle.std.proofs.lemmas.Option.{IfSome_then}
use Rattle.outcome_rule.proofs.rule.rule_fails_at.Goals as goal

pub returns : goal.returns
returns g c =
    IfSome_then c.fails.result c.fails.ensures
    (λ b h says s. h c.args.code.now says c.args.heaps.now (c.in-Some.ensures says s) (c.in_ok-look.ensures says s))
