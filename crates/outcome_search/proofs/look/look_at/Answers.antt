use Rattle.std.proofs.Common.{◌≡◌, ◌++◌, ◌∙◌, slice_index, Some, sym, ap}
use Rattle.std.proofs.lemmas.List.{append-nil}
use Rattle.misere_theory.specs.Games.{HeapOption, MultisetMove}
use Rattle.heap_options.specs.Exact.{heaps_of}
use Rattle.heap_options.specs.Options.{options_of}
use Rattle.outcome_search.proofs.Heaps.{option_fits, move_from_place}
use Rattle.outcome_search.specs.Known.{known}
use Rattle.positions.specs.declared.outcome.Outcome.TheVariants.{P, N}
use Rattle.outcome_search.proofs.Seen.{walked, wins_by, one_more, seen_all}
use Rattle.outcome_search.proofs.look.look_at.Given.{Over}
use Rattle.outcome_search.proofs.look.look_at.Goals as goal
use Rattle.outcome_search.proofs.look.look_at.Goals.{After-get, In-Some}

-- what is left is an option of the heap
option : (g : Over) (c : goal.In-Some g)
    → HeapOption c.args.code.now (slice_index c.args.position.now c.args.at) (heaps_of c.in-Some.left)
option g c =
    let n = slice_index c.args.position.now c.args.at in
    let (whole, listed) =
    walked _ _ (options_of c.args.code.now n) c.in-Some.left c.next.new.self
    c.loop-left.invariant.0 c.in-Some.ensures.steps in
    (c.options_are_exact.ensures.only c.args.code.now n n c.in-Some.left listed).0

-- and what is next is behind a move
move : (g : Over) (c : goal.After-get g)
    → HeapOption c.args.code.now (slice_index c.args.position.now c.args.at) (heaps_of c.in-Some.left)
    → MultisetMove c.args.code.now c.args.position.now c.set_moved.new.self
move g c h =
    move_from_place c.args.code.now c.args.position.now c.args.at (heaps_of c.in-Some.left)
    c.set_moved.new.self c.requires h c.in_ok-set_moved.ensures.moved

pub set_moved-requires-clause-sizes : goal.set_moved-requires-clause-sizes
set_moved-requires-clause-sizes g c =
    option_fits c.args.code.now (slice_index c.args.position.now c.args.at) 1000000000000000000
    (heaps_of c.in-Some.left) (option g (goal.at.set_moved-requires-clause-sizes g c).In-Some)
    (c.heaps.ensures.sizes c.args.at 0 c.requires).1

pub returns-in-Some-P : goal.returns-in-Some-P
returns-in-Some-P g c =
    let is : known c.args.memo.now c.set_moved.new.self ≡ Some P = cc in
    let here = goal.at.returns-in-Some-P g c in
    wins_by _ _ _ _ (move g here.After-get (option g here.In-Some)) is

pub loop-left-preserved : goal.loop-left-preserved
loop-left-preserved g c =
    let is : known c.args.memo.now c.set_moved.new.self ≡ Some N = cc in (
      (walked _ _ (options_of c.args.code.now (slice_index c.args.position.now c.args.at))
          c.in-Some.left c.next.new.self c.loop-left.invariant.0 c.in-Some.ensures.steps).0,
      one_more c.args.memo.now c.args.position.now c.args.at c.loop-left.yielded c.loop-left.seen
          c.in-Some.left c.set_moved.new.self c.loop-left.invariant.1
          c.in_ok-set_moved.ensures.moved is,
    )

pub returns-in-None-get : goal.returns-in-None-get
returns-in-None-get g c =
    let here = goal.at.returns-in-None-get g c in
    record {
      move = move g here.After-get (option g here.In-Some);
      rising = c.in_ok-set_moved.ensures.rising;
      not_known = cc;
    }

pub returns : goal.returns
returns g c =
    let l = c.loop-left in
    let whole : l.yielded ≡ options_of c.args.code.now (slice_index c.args.position.now c.args.at) =
    sym (append-nil l.yielded) ∙ ap (λ v. l.yielded ++ v) (sym c.in-None.ensures.steps.0)
    ∙ l.invariant.0 in
    seen_all c.args.code.now c.args.position.now c.args.memo.now c.args.at l.yielded
    (options_of c.args.code.now (slice_index c.args.position.now c.args.at)) l.seen l.next whole
    l.invariant.1
