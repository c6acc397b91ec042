use Rattle.std.proofs.Common.{refl}
use Rattle.check_machine.proofs.TurnLaws.{runs-none}
use Rattle.checker.proofs.ComeLemmas.{runs_then}
use Rattle.checker.proofs.separating.Separating.go_on.Goals as goal

pub pairs-init : goal.pairs-init
pairs-init g c = λ bytes limit. runs-none bytes limit _ _ _ refl

pub returns-then-not-matches : goal.returns-then-not-matches
returns-then-not-matches g c = λ bytes limit. runs_then bytes limit _ _ _ _ _ _
    (c.pairs.invariant bytes limit) refl (c.look.ensures.runs bytes limit)

pub pairs-preserved : goal.pairs-preserved
pairs-preserved g c = λ bytes limit. runs_then bytes limit _ _ _ _ _ _
    (c.pairs.invariant bytes limit) refl (c.look.ensures.runs bytes limit)
