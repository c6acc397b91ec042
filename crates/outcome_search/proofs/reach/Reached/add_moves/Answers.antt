use Rattle.std.proofs.Common.{sym, subst}
use Rattle.outcome_search.specs.Reached.{AddsMoves}
use Rattle.outcome_search.proofs.Listing.{adds_on}
use Rattle.outcome_search.proofs.reach.Reached.add_moves.Goals as goal
use Rattle.outcome_search.proofs.reach.Reached.add_moves.Goals.{else-heap-before-via-then-heap-before+in_ok-add_moves_of+else-branch, else-heap-before-via-else-heap-before}

pub returns-then-branch-clause-adds : goal.returns-then-branch-clause-adds
returns-then-branch-clause-adds g c =
    adds_on _ _ _ _ _ c.requires c.loop-place.invariant c.in_ok-add_moves_of.ensures.adds

pub loop-place-preserved : goal.loop-place-preserved
loop-place-preserved g c = elim c.else-heap-before.branch [
  | else-heap-before-via-then-heap-before+in_ok-add_moves_of+else-branch w ↦
      subst (AddsMoves c.args.code.now c.args.number c.args.self.now) (sym w.self-is)
      (adds_on _ _ _ _ _ c.requires c.loop-place.invariant w.in_ok-add_moves_of.ensures.adds)
  | else-heap-before-via-else-heap-before w ↦ subst
      (AddsMoves c.args.code.now c.args.number c.args.self.now) (sym w.self-is)
      c.loop-place.invariant
]
