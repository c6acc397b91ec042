use Rattle.std.proofs.Common.{◌<◌, [], get_or, length, All, sym, subst, arith}
use Rattle.outcome_search.specs.Searching.{IsOnTheWay}
use Rattle.outcome_search.proofs.Listing.{alone_on_the_way, on_the_way_on, many_reached}
use Rattle.outcome_search.proofs.reach.Reached.list.Goals as goal

pub loop-number-init : goal.loop-number-init
loop-number-init g c =
    let first = get_or c.args.self.now 0 [] in
    subst (All (IsOnTheWay c.args.code.now first)) (sym c.requires.alone)
    (alone_on_the_way c.args.code.now first c.requires.rising)

pub returns-then-branch : goal.returns-then-branch
returns-then-branch g c = λ yes.
    let here : c.loop-number.number < length c.loop-number.self = let v = c.len.ensures.value in
    omega arith in
    let more = c.in_ok-add_moves.ensures.more c.if-branch.true in
    many_reached _ _ _ _
    (on_the_way_on _ _ _ _ _ here c.loop-number.invariant c.in_ok-add_moves.ensures.adds)
    more.0 more.1

pub loop-number-preserved : goal.loop-number-preserved
loop-number-preserved g c =
    let here : c.loop-number.number < length c.loop-number.self = let v = c.len.ensures.value in
    omega arith in
    on_the_way_on _ _ _ _ _ here c.loop-number.invariant c.in_ok-add_moves.ensures.adds
