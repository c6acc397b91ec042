use Rattle.std.proofs.Common.{refl, subst, sym}
use Rattle.std.proofs.lemmas.Bool.{true≢false}
use Rattle.misere_theory.proofs.Outcomes.{not_both}
use Rattle.positions.specs.Outcomes.{HasOutcome}
use Rattle.positions.specs.declared.outcome.Outcome.{Outcome}
use Rattle.position_commands.specs.Kinds.{code_of}
use Rattle.position_commands.proofs.wins.is_p.Goals as goal

pub returns-in-P : goal.returns-in-P
returns-in-P c = (
  λ t.
      subst (λ (o : Outcome). HasOutcome (code_of c.args.quotient.now) c.args.heaps.now o) c.in-P.is c.outcome_at.ensures,
  λ p. refl,
)

pub returns-in-N : goal.returns-in-N
returns-in-N c = (
  λ t. absurd (true≢false (sym t)),
  λ p.
      absurd (not_both p
      (subst (λ (o : Outcome). HasOutcome (code_of c.args.quotient.now) c.args.heaps.now o) c.in-N.is
      c.outcome_at.ensures)),
)
