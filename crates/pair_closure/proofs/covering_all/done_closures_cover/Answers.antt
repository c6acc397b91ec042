use Rattle.std.proofs.Common.{ℕ, ◌<◌, ◌≤◌, length, sym, subst, arith}
use Rattle.misere_theory.specs.Games.{IsHeapUpTo}
use Rattle.misere_theory.specs.Kinds.{IsHeapIn}
use Rattle.misere_theory.specs.Pairs.{IsClosed}
use Rattle.misere_theory.specs.Quotients.{GivesElements}
use Rattle.misere_theory.proofs.Counting.{shown_in}
use Rattle.pair_closure.specs.Positions.{kept}
use Rattle.pair_closure.proofs.covering_all.done_closures_cover.Goals as goal

pub returns : goal.returns
returns c = λ M code claim k start period s closed over periodic bound X position.
    let elements : GivesElements (IsHeapIn M) claim =
    λ n h. let (m, u, same) = shown_in M code claim k start period periodic n h in
    let last = u.1 in
    let up : m ≤ length s.heaps = omega arith in
    subst (λ v. v < claim.order) (sym same.0) (over.elements m (u.0, up)) in
    c.closed_pairs_cover.ensures M code claim k start period (kept s) over.monoid elements
    periodic
    (subst (λ (b : ℕ). IsClosed code claim (IsHeapUpTo b) (kept s)) bound (closed code claim over))
    X position
