use Rattle.std.proofs.Common.{◌<◌, arith, get_or}
use Rattle.pair_closure.specs.Turns.{blank_held}
use Rattle.pair_closure.proofs.PendingLaws.{pending_here, pending_none}
use Rattle.pair_closure.specs.OverSets.{Held}
use Rattle.std.proofs.Common.{subst}
use Rattle.std.proofs.lemmas.List.{get_or_default}
use Rattle.pair_closure.proofs.settle.pending.Goals as goal

pub returns-else-held-at-clause-value : goal.returns-else-held-at-clause-value
returns-else-held-at-clause-value g c =
    let here : (get_or c.args.held.now c.loop-at.at blank_held).by < c.args.generators =
    subst (λ (m : Held). m.by < c.args.generators)
    (get_or_default c.args.held.now c.loop-at.at _ blank_held c.loop-at-test.true)
    c.if-held-at.false in
    pending_here _ _ _ c.loop-at.invariant.1 c.loop-at-test.true here

pub returns-after-loop-at-clause-value : goal.returns-after-loop-at-clause-value
returns-after-loop-at-clause-value g c = let last = c.loop-at.invariant.0 in
    pending_none _ _ _ c.loop-at.invariant.1 (omega arith)
