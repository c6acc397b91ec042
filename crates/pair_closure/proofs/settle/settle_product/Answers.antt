use Rattle.std.proofs.Common.{◌≡◌, ap, ◌∙◌, rules}
use Rattle.pair_closure.proofs.Lists.{any_set}
use Rattle.pair_closure.proofs.PendingLaws.{before_hold}
use Rattle.std.proofs.Common.{set, get_or}
use Rattle.std.specs.List.{list_any}
use Rattle.transition_algebra.specs.Pairs.{covers}
use Rattle.pair_closure.specs.Turns.{held_with, blank_held}
use Rattle.pair_closure.specs.OverSets.{Held}
use Rattle.pair_closure.proofs.settle.settle_product.Goals as goal

pub returns-clause-before : goal.returns-clause-before
returns-clause-before g c = λ e k l.
    let none = c.requires.tell.covered (c.in_ok-covers_some.ensures.alone (search rules)) in
    let kept : c.hold.new.held.items
    ≡ held_with (set c.args.held.now.items c.args.at c.args.multiplied) c.args.product
    c.len-place.result 0 =
    c.hold.ensures
    ∙ ap (λ held. held_with (set held c.args.at c.args.multiplied) c.args.product
    c.len-place.result 0) c.in_ok-covers_some.ensures.held in
    ap (λ held. get_or held k blank_held) kept
    ∙ before_hold _ _ _ _ _ _ c.requires.within
    (any_set (λ m. covers c.args.product m.pair) _ c.args.at c.args.multiplied blank_held
    (ap (covers c.args.product) c.requires.same) ∙ none) k l

pub hold-requires : goal.hold-requires
hold-requires g c = (
  search rules,
  (
    search rules,
    (λ e.
        let none = c.requires.tell.covered (c.in_ok-covers_some.ensures.alone (search rules)) in
        ap (λ held. list_any (λ (m : Held). covers c.args.product m.pair)
        (set held c.args.at c.args.multiplied)) c.in_ok-covers_some.ensures.held
        ∙ any_set (λ m. covers c.args.product m.pair) _ c.args.at c.args.multiplied blank_held
        (ap (covers c.args.product) c.requires.same) ∙ none),
  ),
)
