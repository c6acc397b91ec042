use Rattle.std.proofs.Common.{[], All, slice_index, slice_index_or, sym, subst}
use Rattle.misere_theory.specs.Games.{HeapOption}
use Rattle.heap_options.specs.Exact.{heaps_of}
use Rattle.heap_options.specs.Options.{options_of}
use Rattle.positions.specs.Positions.{IsSize}
use Rattle.outcome_search.specs.Reached.{AddsMoves}
use Rattle.outcome_search.proofs.Heaps.{option_fits}
use Rattle.outcome_search.proofs.Listing.{moved_on}
use Rattle.outcome_search.proofs.Seen.{walked}
use Rattle.outcome_search.proofs.reach.Reached.add_moves_of.Given.{Over}
use Rattle.outcome_search.proofs.reach.Reached.add_moves_of.Goals as goal
use Rattle.outcome_search.proofs.reach.Reached.add_moves_of.Goals.{After-len, In-Some}

-- what is left is an option of the heap
option : (g : Over) (c : goal.In-Some g)
    → HeapOption c.args.code.now
    (slice_index (slice_index_or c.args.self.now c.args.number []) c.args.place)
    (heaps_of c.in-Some.left)
option g c =
    let n = slice_index (slice_index_or c.args.self.now c.args.number []) c.args.place in
    let (whole, listed) =
    walked _ _ (options_of c.args.code.now n) c.in-Some.left c.next.new.self
    c.loop-left.invariant.0 c.in-Some.ensures.steps in
    (c.options_are_exact.ensures.only c.args.code.now n n c.in-Some.left listed).0

-- the position behind the move is added
adds : (g : Over) (c : goal.After-len g)
    → HeapOption c.args.code.now
    (slice_index (slice_index_or c.args.self.now c.args.number []) c.args.place)
    (heaps_of c.in-Some.left)
    → AddsMoves c.args.code.now c.args.number c.args.self.now c.add.new.self
adds g c h =
    subst (AddsMoves c.args.code.now c.args.number c.args.self.now) (sym c.in_ok-add.ensures)
    (moved_on _ _ _ _ _ _ _ _ c.requires.there c.requires.place c.loop-left.invariant.1
    c.at-in-loop-left.ensures h c.in_ok-set_moved.ensures.moved c.in_ok-set_moved.ensures.rising)

pub set_moved-requires-clause-sizes : goal.set_moved-requires-clause-sizes
set_moved-requires-clause-sizes g c =
    let sizes = subst (All IsSize) c.at.ensures c.heaps.ensures.sizes in
    option_fits c.args.code.now
    (slice_index (slice_index_or c.args.self.now c.args.number []) c.args.place)
    1000000000000000000 (heaps_of c.in-Some.left)
    (option g (goal.at.set_moved-requires-clause-sizes g c).In-Some)
    (sizes c.args.place 0 c.requires.place).1

pub returns-then-len-most-clause-adds : goal.returns-then-len-most-clause-adds
returns-then-len-most-clause-adds g c =
    let here = goal.at.returns-then-len-most-clause-adds g c in
    adds g here.After-len (option g here.In-Some)

pub loop-left-preserved : goal.loop-left-preserved
loop-left-preserved g c =
    let here = goal.at.loop-left-preserved g c in (
      (walked _ _ (options_of c.args.code.now
          (slice_index (slice_index_or c.args.self.now c.args.number []) c.args.place))
          c.in-Some.left c.next.new.self c.loop-left.invariant.0 c.in-Some.ensures.steps).0,
      adds g here.After-len (option g here.In-Some),
    )
