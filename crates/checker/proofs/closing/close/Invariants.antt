use Rattle.std.proofs.Common.{◌≡◌, false}
use Rattle.pair_closure.specs.ClosureViews.{SameData, has_ended}
use Rattle.check_machine.specs.Rules.{HeldObey}
use Rattle.check_machine.specs.Turns.Phase.{Closing}
use Rattle.checker.specs.Closes.{Closes}
use Rattle.checker.proofs.closing.close.Given as goal

abbrev pub invariant-members : goal.invariant-members
invariant-members g l = record {
  obey : HeldObey l.inside l.closure.state.held;
  same : SameData l.initial.closure.state l.closure.state;
  going : has_ended l.closure.state ≡ false;
  fresh : l.closure.failed ≡ false;
  runs : Closes l.inside l.initial.closure l.initial.left l.left
      (λ c. Closing (record { certificate = c; closure = l.closure }));
}

abbrev pub decreases-members : goal.decreases-members
decreases-members g l = l.left
