use Rattle.std.proofs.Common.{◌≡◌, ◌<◌, ◌+◌, ◌-◌, ℕ, List, Bool, length, get_or, true, false, ap, sym, subst, arith}
use Rattle.heap_options.specs.Exact.{heaps_of}
use Rattle.heap_options.specs.Options.{options_of}
use Rattle.outcome_search.specs.Known.{HasSeen}
use Rattle.outcome_search.specs.declared.look.Seen.{Seen}
use Rattle.outcome_search.proofs.Seen.{HasLooked, looked_none, looked_loses, looked_again, looked_all}
use Rattle.outcome_search.proofs.look.look.Goals.{in-Nothing, in-Loses}
use Rattle.outcome_search.proofs.look.look.Goals as goal

pub loop-at-preserved-then-heaps-at : goal.loop-at-preserved-then-heaps-at
loop-at-preserved-then-heaps-at g c =
    let X = c.args.position.now in
    let l = ap length c.heaps-heaps.ensures.value in
    let same =
    subst (λ (h : List ℕ). get_or h (c.loop-at.at - 1) 0 ≡ get_or h c.loop-at.at 0)
    c.heaps-heaps.ensures.value c.if-heaps-at.true in
    looked_again c.args.code.now X c.args.memo.now c.loop-at.at c.loop-at.can_move c.if-at-gt0.true
    (omega arith) same c.loop-at.invariant

pub loop-at-preserved : goal.loop-at-preserved
loop-at-preserved g c =
    let X = c.args.position.now in
    let at = c.loop-at.at in
    let l = ap length c.heaps-heaps.ensures.value in
    let inside : at < length X = omega arith in
    let Holds : Seen → Type 0 =
    λ s. HasSeen c.args.code.now X c.args.memo.now at
    (options_of c.args.code.now (get_or X at 0)) s c.look_at.new.next in
    let Looked : Bool → Type 0 = λ b. HasLooked c.args.code.now X c.args.memo.now (at + 1) b in
    elim c.match-branch-2.branch [
      | in-Nothing w ↦ subst Looked (sym w.can_move-is)
          (looked_none c.args.code.now X c.args.memo.now at c.loop-at.can_move c.loop-at.invariant
          (subst Holds w.in-Nothing.is c.in_ok-look_at.ensures))
      | in-Loses w ↦
          let says = subst Holds w.in-Loses.is c.in_ok-look_at.ensures in
          subst Looked (sym w.can_move-is)
          (looked_loses c.args.code.now X c.args.memo.now at c.loop-at.can_move inside
          c.loop-at.invariant says.0 (heaps_of says.1.0)
          (c.options_are_exact.ensures.only c.args.code.now (get_or X at 0) (get_or X at 0) says.1.0
          says.1.1).0)
    ]

pub returns-then-can_move : goal.returns-then-can_move
returns-then-can_move g c =
    let l = ap length c.heaps-heaps.ensures.value in
    let end = c.loop-at.auto.at-end in
    looked_all c.args.code.now c.args.position.now c.args.memo.now c.options_are_exact.ensures.each
    c.loop-at.at c.loop-at.can_move true c.loop-at.invariant (omega arith) c.if-can_move.true

pub returns-else-can_move : goal.returns-else-can_move
returns-else-can_move g c =
    let l = ap length c.heaps-heaps.ensures.value in
    let end = c.loop-at.auto.at-end in
    looked_all c.args.code.now c.args.position.now c.args.memo.now c.options_are_exact.ensures.each
    c.loop-at.at c.loop-at.can_move false c.loop-at.invariant (omega arith) c.if-can_move.false
