-- As the loop goes on, each member held obeys the rule, and the turns taken are the closure's.
use Rattle.std.proofs.Common.{rules, ◌≡◌, ◌<◌, length, refl, arith, ◌∙◌}
use Rattle.pair_closure.specs.ClosureViews.{State, SameData, steps}
use Rattle.check_machine.specs.Turns.Phase.{Closing}
use Rattle.check_machine.proofs.TurnLaws.{runs-none}
use Rattle.check_machine.proofs.CloseTurns.{ok_takes, err_refused, kept_takes, takes_fresh, refused_runs, runs-left, broken_runs, over_runs, done_runs, more_runs}
use Rattle.checker.proofs.HeldLemmas.{held_obey}
use Rattle.checker.proofs.closing.close.Goals as goal

same_data_on : (r s t : State) → SameData s t → SameData r s → SameData r t
same_data_on r s t d e = record {
  table = d.table ∙ e.table;
  heaps = d.heaps ∙ e.heaps;
  limit = d.limit ∙ e.limit;
}

pub broken-requires : goal.broken-requires
broken-requires g c =
    (search rules, (search rules, rw c.ever-ever.ensures c.grow_to_member-grown.ensures.kept.last))

pub members-init : goal.members-init
members-init g c = record {
  obey = c.requires.obey;
  same = record { table = refl; heaps = refl; limit = refl };
  going = c.requires.going;
  fresh = c.requires.fresh;
  runs = λ d portion bytes limit. runs-none bytes limit _ _ _ refl;
}

pub returns-in-Some-clause-closed : goal.returns-in-Some-clause-closed
returns-in-Some-clause-closed g c =
    let i = c.members.invariant in
    let p = c.members.closure in
    let q = c.grow_to_member-grown.new.self in
    let h = c.in-Some.ensures.some in
    let l : length p.state.members < length q.state.members = rw c.ever-ever.ensures at h.more in
    let k =
    kept_takes c.grow_to_member-grown.result p q c.members.left
    c.grow_to_member-grown.ensures.grows i.fresh l in
    let a = c.spent.ensures in
    let b = c.spent-before.ensures in (
      h.held,
      λ d portion bytes limit. broken_runs d c.args.inside.now portion bytes limit _ p q _
          c.members.left _ (i.runs d portion bytes limit) k (omega arith) _ l h.breaks h.last,
    )

pub returns-in-Err-clause-closed : goal.returns-in-Err-clause-closed
returns-in-Err-clause-closed g c =
    let i = c.members.invariant in
    let p = c.members.closure in
    let q = c.grow_to_member-grown.new.self in
    let k =
    err_refused c.grow_to_member-grown.result c.in-Err.field-0 p q c.members.left
    c.grow_to_member-grown.ensures.grows i.fresh c.in-Err.is in
    let a = c.spent.ensures in
    let b = c.spent-before.ensures in (
      λ d. Closing (record { certificate = d; closure = steps k.turns p }),
      λ d portion bytes limit.
          runs-left bytes limit _ _ _ _ _
          (refused_runs bytes limit d _ p q _ c.members.left (i.runs d portion bytes limit) k)
          (omega arith),
    )

pub returns-in-Ok-Done-clause-closed : goal.returns-in-Ok-Done-clause-closed
returns-in-Ok-Done-clause-closed g c =
    let i = c.members.invariant in
    let p = c.members.closure in
    let q = c.grow_to_member-grown.new.self in
    let last = rw c.ever-ever.ensures at c.in_default.ensures.none in
    let k =
    ok_takes c.grow_to_member-grown.result c.in-Ok-Done.field-0 p q c.members.left
    c.grow_to_member-grown.ensures.grows c.in-Ok-Done.is in
    let a = c.spent.ensures in
    let b = c.spent-before.ensures in (
      c.grow_to_member-grown.ensures.closed (search rules),
      held_obey c.args.inside.now p.state q.state c.grow_to_member-grown.ensures.kept i.obey last,
      λ d portion bytes limit. done_runs d c.args.inside.now portion bytes limit _ p q _
          c.members.left _ (i.runs d portion bytes limit) k (omega arith) last i.going
          (c.grow_to_member-grown.ensures.done (search rules)),
    )

pub returns-in-Ok-Over-clause-closed : goal.returns-in-Ok-Over-clause-closed
returns-in-Ok-Over-clause-closed g c =
    let i = c.members.invariant in
    let p = c.members.closure in
    let q = c.grow_to_member-grown.new.self in
    let last = rw c.ever-ever.ensures at c.in_default.ensures.none in
    let k =
    ok_takes c.grow_to_member-grown.result c.in-Ok-Over.field-0 p q c.members.left
    c.grow_to_member-grown.ensures.grows c.in-Ok-Over.is in
    let a = c.spent.ensures in
    let b = c.spent-before.ensures in
    λ d portion bytes limit. over_runs d c.args.inside.now portion bytes limit _ p q _
    c.members.left _ (i.runs d portion bytes limit) k (omega arith) last i.going
    (c.grow_to_member-grown.ensures.over (search rules))

pub returns-then-ever-clause-closed : goal.returns-then-ever-clause-closed
returns-then-ever-clause-closed g c =
    let i = c.members.invariant in
    let p = c.members.closure in
    let q = c.grow_to_member-grown.new.self in
    let last = rw c.ever-ever.ensures at c.in_default.ensures.none in
    let k =
    ok_takes c.grow_to_member-grown.result c.in-Ok-More.field-0 p q c.members.left
    c.grow_to_member-grown.ensures.grows c.in-Ok-More.is in
    let a = c.spent.ensures in
    let b = c.spent-before.ensures in
    let m : length q.state.members ≡ length p.state.members =
    (let a = c.ever.ensures in let b = c.ever-ever.ensures in let e = c.if-ever.true in omega arith)
    in
    let f = c.grow_to_member-grown.ensures.spent (search rules) m in
    let on = c.grow_to_member-grown.ensures.more (search rules) in (
      omega arith,
      held_obey c.args.inside.now p.state q.state c.grow_to_member-grown.ensures.kept i.obey last,
      on,
      takes_fresh p q c.members.left k i.fresh,
      λ d portion bytes limit. more_runs d c.args.inside.now portion bytes limit _ p q _
          c.members.left _ (i.runs d portion bytes limit) k (omega arith) last i.going on,
    )

pub members-preserved : goal.members-preserved
members-preserved g c =
    let i = c.members.invariant in
    let p = c.members.closure in
    let q = c.grow_to_member-grown.new.self in
    let last = rw c.ever-ever.ensures at c.in_default.ensures.none in
    let k =
    ok_takes c.grow_to_member-grown.result c.in-Ok-More.field-0 p q c.members.left
    c.grow_to_member-grown.ensures.grows c.in-Ok-More.is in
    let a = c.spent.ensures in
    let b = c.spent-before.ensures in
    let on = c.grow_to_member-grown.ensures.more (search rules) in
    record {
      obey = held_obey c.args.inside.now p.state q.state c.grow_to_member-grown.ensures.kept i.obey last;
      same = same_data_on _ _ _ c.grow_to_member-grown.ensures.«data» i.same;
      going = on;
      fresh = takes_fresh p q c.members.left k i.fresh;
      runs = λ d portion bytes limit. more_runs d c.args.inside.now portion bytes limit _ p q _
          c.members.left _ (i.runs d portion bytes limit) k (omega arith) last i.going on;
    }

pub returns-in-Some-clause-same : goal.returns-in-Some-clause-same
returns-in-Some-clause-same g c =
    same_data_on _ _ _ c.grow_to_member-grown.ensures.«data» c.members.invariant.same

pub returns-in-Err-clause-same : goal.returns-in-Err-clause-same
returns-in-Err-clause-same g c =
    same_data_on _ _ _ c.grow_to_member-grown.ensures.«data» c.members.invariant.same

pub returns-in-Ok-Done-clause-same : goal.returns-in-Ok-Done-clause-same
returns-in-Ok-Done-clause-same g c =
    same_data_on _ _ _ c.grow_to_member-grown.ensures.«data» c.members.invariant.same

pub returns-in-Ok-Over-clause-same : goal.returns-in-Ok-Over-clause-same
returns-in-Ok-Over-clause-same g c =
    same_data_on _ _ _ c.grow_to_member-grown.ensures.«data» c.members.invariant.same

pub returns-then-ever-clause-same : goal.returns-then-ever-clause-same
returns-then-ever-clause-same g c =
    same_data_on _ _ _ c.grow_to_member-grown.ensures.«data» c.members.invariant.same
