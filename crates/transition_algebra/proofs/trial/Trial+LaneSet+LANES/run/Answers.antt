-- Case by case, each by its lemma.
use Rattle.std.proofs.Common.{◌≡◌, ◌-◌, ◌<◌, ◌≤◌, length, refl, ◌∙◌, ap, subst, arith}
use Rattle.transition_algebra.specs.Trials.{after_cut, after_row}
use Rattle.transition_algebra.specs.declared.cut_values.Cut.TheVariants.{InTwo, InThree}
use Rattle.heap_options.specs.Options.{last_first}
use Rattle.heap_options.proofs.WalkLaws.{single_short}
use Rattle.transition_algebra.proofs.Ready.{not_over}
use Rattle.transition_algebra.proofs.Runs.{run_single, run_none, run_splits, run_triples, run_row, run_last_row}
use Rattle.transition_algebra.proofs.HeapRuns.{run_close}
use Rattle.transition_algebra.proofs.trial.Trial+LaneSet+LANES.run.Goals as goal

pub returns-then-is_over-clause-ok : goal.returns-then-is_over-clause-ok
returns-then-is_over-clause-ok g c =
    let past : length c.args.scene.now.code.now ≤ c.args.self.now.walk.away =
    c.is_over.ensures.over.0 c.if-is_over.true in
    run_close c.args.scene.now.code.now c.args.scene.now.table.now c.args.scene.now.phi.now c.args.self.now c.close.new.self
    c.args.pairs.now.items c.close.new.pairs.items c.args.units 1 _
    c.requires.goes_on.trial c.is_ready.ensures.going past c.requires.some refl c.in_ok-close.ensures.trial refl
    c.in_ok-close.ensures.pair

pub returns-in-Everything-clause-ok : goal.returns-in-Everything-clause-ok
returns-in-Everything-clause-ok g c =
    let inside : c.args.self.now.walk.away < length c.args.scene.now.code.now =
    not_over c.is_over.result c.is_over.ensures.over c.if-is_over.false in
    run_single c.args.scene.now.code.now c.args.scene.now.table.now c.args.scene.now.phi.now c.args.self.now
    c.args.pairs.now.items c.args.units c.requires.goes_on.trial c.is_ready.ensures.going
    c.try_single.new.self c.try_single.result inside c.in-Everything.is c.requires.some
    (single_short c.args.scene.now.code.now c.args.self.now.walk.heap c.args.self.now.walk.away)
    c.try_single.ensures.count c.try_single.ensures.trial

pub returns-in_ok-take_values-in-Splits-clause-ok :
    goal.returns-in_ok-take_values-in-Splits-clause-ok
returns-in_ok-take_values-in-Splits-clause-ok g c =
    let inside : c.args.self.now.walk.away < length c.args.scene.now.code.now =
    not_over c.is_over.result c.is_over.ensures.over c.if-is_over.false in
    let same = c.spend_splits-spent.ensures.none c.if-spent-eq0.true in
    run_none c.args.scene.now.code.now c.args.scene.now.table.now c.args.scene.now.phi.now c.args.self.now
    c.args.pairs.now.items c.args.units c.requires.goes_on.trial c.is_ready.ensures.going
    c.take_values.new.self c.spend_splits-spent.result c.in-Splits.part c.if-spent-eq0.true inside c.in-Splits.is c.requires.some c.spend_splits-spent.ensures.count
    (c.in_ok-take_values-in-Splits.ensures.trial
    ∙ ap (after_cut InTwo c.args.scene.now.code.now c.args.scene.now.table.now c.args.scene.now.phi.now) same)

pub returns-else-spent-eq0-clause-ok : goal.returns-else-spent-eq0-clause-ok
returns-else-spent-eq0-clause-ok g c =
    let some : 1 ≤ c.spend_splits-spent.result = let f = c.if-spent-eq0.false in omega arith in
    run_splits c.args.scene.now.code.now c.args.scene.now.table.now c.args.scene.now.phi.now c.args.self.now
    c.args.pairs.now.items c.args.units c.requires.goes_on.trial c.is_ready.ensures.going
    c.spend_splits-spent.new.self c.spend_splits-spent.result c.in-Splits.part c.in-Splits.is some
    c.spend_splits-spent.ensures.count (c.spend_splits-spent.ensures.some some)

pub returns-then-spent-gt0-clause-ok : goal.returns-then-spent-gt0-clause-ok
returns-then-spent-gt0-clause-ok g c =
    let some : 1 ≤ c.spend_triples-spent.result = let f = c.if-spent-gt0.true in omega arith in
    run_triples c.args.scene.now.code.now c.args.scene.now.table.now c.args.scene.now.phi.now c.args.self.now
    c.args.pairs.now.items c.args.units c.requires.goes_on.trial c.is_ready.ensures.going
    c.spend_triples-spent.new.self c.spend_triples-spent.result c.in-Triples.first
    c.in-Triples.second c.in-Triples.is some c.spend_triples-spent.ensures.count
    (c.spend_triples-spent.ensures.some some)

pub returns-then-first-last_first-clause-ok : goal.returns-then-first-last_first-clause-ok
returns-then-first-last_first-clause-ok g c =
    let zero : c.spend_triples-spent.result ≡ 0 = let f = c.if-spent-gt0.false in omega arith in
    let same = c.spend_triples-spent.ensures.none zero in
    let t = c.spend_triples-spent.new.self in
    let last = c.last_first.ensures in
    let here : c.in-Triples.first < last_first (t.walk.heap - t.walk.away) t.walk.most =
    let f = c.if-first-last_first.true in omega arith in
    let less = subst (λ t. c.in-Triples.first < last_first (t.walk.heap - t.walk.away) t.walk.most)
    same here in
    run_row c.args.scene.now.code.now c.args.scene.now.table.now c.args.scene.now.phi.now c.args.self.now
    c.args.pairs.now.items c.args.units c.requires.goes_on.trial c.is_ready.ensures.going
    (record t { walk = c.pass_row.new.self }) c.spend_triples-spent.result c.in-Triples.first
    c.in-Triples.second c.in-Triples.is c.requires.some zero c.spend_triples-spent.ensures.count less
    (ap (λ w. record t { walk = w }) (c.pass_row.ensures.row here)
    ∙ ap (λ u. after_row u c.in-Triples.first) same)

pub returns-in_ok-take_values-in-Triples-clause-ok :
    goal.returns-in_ok-take_values-in-Triples-clause-ok
returns-in_ok-take_values-in-Triples-clause-ok g c =
    let inside : c.args.self.now.walk.away < length c.args.scene.now.code.now =
    not_over c.is_over.result c.is_over.ensures.over c.if-is_over.false in
    let zero : c.spend_triples-spent.result ≡ 0 = let f = c.if-spent-gt0.false in omega arith in
    let same = c.spend_triples-spent.ensures.none zero in
    let first = c.last_first.ensures in
    let last : last_first (c.args.self.now.walk.heap - c.args.self.now.walk.away)
    c.args.self.now.walk.most ≤ c.in-Triples.first =
    subst (λ t. last_first (t.walk.heap - t.walk.away) t.walk.most ≤ c.in-Triples.first) same
    (let f = c.if-first-last_first.false in omega arith) in
    run_last_row c.args.scene.now.code.now c.args.scene.now.table.now c.args.scene.now.phi.now c.args.self.now
    c.args.pairs.now.items c.args.units c.requires.goes_on.trial c.is_ready.ensures.going
    c.take_values-else-first-last_first.new.self c.spend_triples-spent.result c.in-Triples.first c.in-Triples.second inside
    c.in-Triples.is c.requires.some zero c.spend_triples-spent.ensures.count last
    (c.in_ok-take_values-in-Triples.ensures.trial
    ∙ ap (after_cut InThree c.args.scene.now.code.now c.args.scene.now.table.now c.args.scene.now.phi.now) same)
