use Rattle.std.proofs.Common.{◌≤◌, ◌+◌, ◌*◌, length, subst}
use Rattle.pair_closure.specs.Positions.{ShowsPairs, IsMinimal}
use Rattle.pair_closure.proofs.Machine.{of_run}
use Rattle.pair_closure.proofs.Positions.{shows, minimal}
use Rattle.pair_closure.specs.Calls.{IsLimited}
use Rattle.pair_closure.proofs.Runs.{spent_le, limited}
use Rattle.pair_closure.proofs.closure.Closure.shows_pairs.Goals as goal

pub returns-clause-shows : goal.returns-clause-shows
returns-clause-shows g c =
    subst (λ z. ShowsPairs z.state) c.self.view_is (shows _ (of_run _ c.self.invariant.0))

pub returns-clause-minimal : goal.returns-clause-minimal
returns-clause-minimal g c =
    subst (λ z. IsMinimal z.state) c.self.view_is (minimal _ (of_run _ c.self.invariant.0))

pub returns-clause-bound : goal.returns-clause-bound
returns-clause-bound g c =
    subst (λ z. z.spent ≤ z.state.limit * length z.state.heaps + 2) c.self.view_is
    (spent_le _ c.self.invariant.0)

pub returns-clause-limit : goal.returns-clause-limit
returns-clause-limit g c =
    subst (λ z. IsLimited z.state) c.self.view_is (limited _ c.self.invariant.0)
