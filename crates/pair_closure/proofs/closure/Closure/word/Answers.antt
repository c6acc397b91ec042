use Rattle.std.proofs.Common.{◌≡◌, ◌<◌, ◌∙◌, true≢false, sym, ap, subst, length, get_or, refl, arith}
use Rattle.pair_closure.specs.Chains.{blank}
use Rattle.pair_closure.specs.Turns.{blank_held}
use Rattle.pair_closure.specs.ClosureViews.{IsRun}
use Rattle.std.proofs.lemmas.List.{get_or_default}
use Rattle.pair_closure.proofs.Machine.{of_run, place_in}
use Rattle.pair_closure.proofs.Words.{Walking, walk_begins, walk_goes, walk_falls, walk_sizes, walk_room, walk_ends}
use Rattle.pair_closure.proofs.closure.Closure.word.Goals as goal

pub loop-at-init : goal.loop-at-init
loop-at-init g c =
    let s = c.args.self.now.state in
    let run : IsRun c.args.self.now = subst IsRun c.self.view_is c.self.invariant.0 in
    let inside : c.args.i < length c.self.inside.held.items =
    subst (λ z. c.args.i < length z.state.held) (sym c.self.view_is) c.requires in
    let at : c.index.result.now.place ≡ (get_or s.held c.args.i blank_held).place =
    ap (λ z. z.place)
    (c.index.ensures ∙ get_or_default c.self.inside.held.items c.args.i _ blank_held inside)
    ∙ ap (λ z. (get_or z.state.held c.args.i blank_held).place) c.self.view_is in
    subst (λ n. Walking s (get_or s.held c.args.i blank_held).place n c.new-word.result) (sym at)
    (walk_begins s (get_or s.held c.args.i blank_held).place c.new-word.result
    (place_in s (of_run _ run) c.args.i blank_held c.requires) c.new-word.ensures)

pub push-requires : goal.push-requires
push-requires g c =
    let run : IsRun c.args.self.now = subst IsRun c.self.view_is c.self.invariant.0 in
    walk_sizes c.args.self.now.state (of_run _ run) run.short _ c.loop-at.at c.loop-at.word
    c.get-member.result c.loop-at.invariant c.loop-at-test.true
    (c.get-member.ensures ∙ ap (λ z. get_or z.state.members c.loop-at.at blank) c.self.view_is)

pub loop-at-smaller : goal.loop-at-smaller
loop-at-smaller g c =
    let run : IsRun c.args.self.now = subst IsRun c.self.view_is c.self.invariant.0 in
    walk_falls c.args.self.now.state (of_run _ run) _ c.loop-at.at c.loop-at.word
    c.get-member.result c.loop-at.invariant c.loop-at-test.true
    (c.get-member.ensures ∙ ap (λ z. get_or z.state.members c.loop-at.at blank) c.self.view_is)

pub loop-at-preserved : goal.loop-at-preserved
loop-at-preserved g c =
    let run : IsRun c.args.self.now = subst IsRun c.self.view_is c.self.invariant.0 in
    walk_goes c.args.self.now.state (of_run _ run) _ c.loop-at.at c.loop-at.word c.push.new.self
    c.get-member.result c.loop-at.invariant c.loop-at-test.true
    (c.get-member.ensures ∙ ap (λ z. get_or z.state.members c.loop-at.at blank) c.self.view_is)
    c.in_ok-push.ensures.ok

pub returns-in_err-push-clause-inline : goal.returns-in_err-push-clause-inline
returns-in_err-push-clause-inline g c = λ few.
    let run : IsRun c.args.self.now = subst IsRun c.self.view_is c.self.invariant.0 in
    let less =
    walk_room c.args.self.now.state (of_run _ run) _ c.loop-at.at c.loop-at.word
    c.loop-at.invariant c.loop-at-test.true in
    absurd (true≢false (sym (c.in_err-push.ensures.inline (omega arith))))

pub returns-clause-is : goal.returns-clause-is
returns-clause-is g c =
    let run : IsRun c.args.self.now = subst IsRun c.self.view_is c.self.invariant.0 in
    walk_ends c.args.self.now.state (of_run _ run)
    (get_or c.args.self.now.state.held c.args.i blank_held) c.args.i c.loop-at.at c.loop-at.word
    c.requires refl c.loop-at.invariant c.loop-at-test.false c.heaps.ensures.rising
