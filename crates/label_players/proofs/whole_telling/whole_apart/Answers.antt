use Rattle.std.proofs.Common.{rules, ◌≡◌, ◌∙◌, sym, ap}
use Rattle.label_players.specs.Values.{triple_told}
use Rattle.label_players.proofs.Apart.{sizes_are_heaps, told_once}
use Rattle.label_players.proofs.whole_telling.whole_apart.Goals as goal

pub returns-then-eq : goal.returns-then-eq
returns-then-eq g c =
    let e : c.in-Some.x ≡ c.in-Some-whole_value.y = search rules in
    (c.text-text.ensures.solved.indistinguishable c.args.first.now c.args.second.now
    (sizes_are_heaps c.args.first.now c.heaps.ensures.sizes)
    (sizes_are_heaps c.args.second.now c.heaps-2.ensures.sizes)).1
    (sym c.in-Some.ensures ∙ ap triple_told e ∙ c.in-Some-whole_value.ensures)

pub returns : goal.returns
returns g c = λ alike.
    let differ : c.in-Some.x ≡ c.in-Some-whole_value.y → ⊥ = search rules in
    differ (told_once c.in-Some.x c.in-Some-whole_value.y
    (c.in-Some.ensures
    ∙ (c.text-text.ensures.solved.indistinguishable c.args.first.now c.args.second.now
    (sizes_are_heaps c.args.first.now c.heaps.ensures.sizes)
    (sizes_are_heaps c.args.second.now c.heaps-2.ensures.sizes)).0 alike
    ∙ sym c.in-Some-whole_value.ensures))
