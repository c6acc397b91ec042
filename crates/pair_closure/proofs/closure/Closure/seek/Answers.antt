use Rattle.std.proofs.Common.{◌≡◌, ◌<◌, length, subst, rules}
use Rattle.pair_closure.specs.Turns.{blank_held, first_pending}
use Rattle.pair_closure.proofs.WhichTurn.{none_before}
use Rattle.pair_closure.proofs.closure.Closure.seek.Goals as goal

pub invariant_of-self : goal.invariant_of-self
invariant_of-self g c =
    let s = c.self.inside in
    let first : c.pending-self-inside.result
    ≡ first_pending s.held.items (length s.generators.items) = search rules in (
      c.self.invariant.0,
      λ k l _. none_before s.held.items (length s.generators.items) k blank_held
          (subst (λ n. k < n) first l),
      c.self.invariant.2,
      c.self.invariant.3,
    )
