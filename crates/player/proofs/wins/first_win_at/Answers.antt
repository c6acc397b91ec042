use Rattle.std.proofs.Common.{rules, ◌≡◌, ◌<◌, ◌∷◌, ◌++◌, [], length, sym, ◌∙◌, ap, subst, append_assoc}
use Rattle.misere_theory.specs.Games.{IsPosition}
use Rattle.heap_options.specs.Exact.{heaps_of}
use Rattle.player.proofs.Labels.{p_beside, not_p_beside, short}
use Rattle.player.proofs.Tried.{first_of_all, none_more, parts_are_heaps, seen_more}
use Rattle.player.proofs.wins.first_win_at.Goals as goal

pub label-requires : goal.label-requires
label-requires g c =
    subst (IsPosition (g.L.Labelling.heap c.args.by.now)) (sym (c.as_slice.ensures ∙ c.heaps.ensures))
    (parts_are_heaps (g.L.Labelling.code c.args.by.now) (g.L.Labelling.most c.args.by.now) c.args.heaps.now
    c.args.at c.requires.there (g.L.Labelling.heap c.args.by.now)
    c.are_enough.ensures.part c.requires.position
    c.loop-left.yielded c.next.new.self c.in-Some.left
    (ap (λ xs. c.loop-left.yielded ++ xs) (sym c.in-Some.ensures.steps) ∙ c.loop-left.invariant.0))

pub is_p-requires : goal.is_p-requires
is_p-requires g c =
    let (Y, same, has) = c.requires.others in
    (c.as_slice.result.now ++ Y, c.times.ensures c.as_slice.result.now Y c.label.ensures has)

pub returns-then-is_p : goal.returns-then-is_p
returns-then-is_p g c =
    let X = c.args.heaps.now in
    let (Y, same, has) = c.requires.others in
    let H = heaps_of c.in-Some.left in
    let e : c.as_slice.result.now ≡ H = c.as_slice.ensures ∙ c.heaps.ensures in
    let few : length X < 18446744073709551616 = search rules in
    let known =
    c.is_p.ensures (H ++ Y)
    (subst (λ Z. g.L.Labelling.labels c.args.by.now (Z ++ Y) c.times.result) e
    (c.times.ensures c.as_slice.result.now Y c.label.ensures has))
    (short X c.args.at c.in-Some.left Y few same) in
    first_of_all (g.L.Labelling.code c.args.by.now) (g.L.Labelling.most c.args.by.now) X c.args.at
    c.requires.there c.requires.rising c.requires.none c.loop-left.yielded c.next.new.self c.in-Some.left
    (ap (λ xs. c.loop-left.yielded ++ xs) (sym c.in-Some.ensures.steps) ∙ c.loop-left.invariant.0)
    c.loop-left.invariant.1
    (p_beside (g.L.Labelling.code c.args.by.now) H _ Y same c.is_p.result known c.if-is_p.true)

pub loop-left-preserved : goal.loop-left-preserved
loop-left-preserved g c =
    let X = c.args.heaps.now in
    let (Y, same, has) = c.requires.others in
    let H = heaps_of c.in-Some.left in
    let e : c.as_slice.result.now ≡ H = c.as_slice.ensures ∙ c.heaps.ensures in
    let few : length X < 18446744073709551616 = search rules in
    let known =
    c.is_p.ensures (H ++ Y)
    (subst (λ Z. g.L.Labelling.labels c.args.by.now (Z ++ Y) c.times.result) e
    (c.times.ensures c.as_slice.result.now Y c.label.ensures has))
    (short X c.args.at c.in-Some.left Y few same) in (
      append_assoc c.loop-left.yielded (c.in-Some.left ∷ []) c.next.new.self
          ∙ ap (λ xs. c.loop-left.yielded ++ xs) (sym c.in-Some.ensures.steps)
          ∙ c.loop-left.invariant.0,
      seen_more _ c.loop-left.yielded c.in-Some.left
          (not_p_beside (g.L.Labelling.code c.args.by.now) H _ Y same c.is_p.result known c.if-is_p.false)
          c.loop-left.invariant.1,
    )

pub returns : goal.returns
returns g c =
    none_more (g.L.Labelling.code c.args.by.now) (g.L.Labelling.most c.args.by.now) c.args.heaps.now
    c.args.at c.requires.there c.requires.none c.loop-left.yielded c.loop-left.left-iterator
    c.loop-left.invariant.0 c.in-None.ensures.steps.0 c.loop-left.invariant.1
