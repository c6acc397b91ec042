use Rattle.std.proofs.Common.{arith, sym, ap, subst, ◌∙◌, ◌+◌}
use Rattle.check_machine.specs.SoFar.{KeysSoFar}
use Rattle.check_machine.specs.Turns.{keys_turn}
use Rattle.check_machine.specs.Turns.Phase.{Products}
use Rattle.check_machine.proofs.KeyLaws.{key_turn, keys_end}
use Rattle.checker.proofs.LoopTurns.{keys_missed, keys_next, keys_fall, keys_over}
use Rattle.checker.proofs.keys.Keys.turn.Goals as goal

pub returns-then-not-is_keyed : goal.returns-then-not-is_keyed
returns-then-not-is_keyed g c =
    sym (ap keys_turn (sym c.self.view_is)
    ∙ keys_missed _ _ _ _ c.is_keyed.ensures.same c.if-not-is_keyed.true)

pub returns-then-next-order : goal.returns-then-next-order
returns-then-next-order g c =
    let e = c.order.ensures.value in
    sym (ap keys_turn (sym c.self.view_is)
    ∙ keys_next _ _ _ _ c.is_keyed.ensures.same c.if-not-is_keyed.false _
    c.is_above_last-rising.ensures.same (omega arith))

pub invariant_of-result : goal.invariant_of-result
invariant_of-result g c =
    let i = c.self.invariant in
    let e = c.order.ensures.value in (
      key_turn _ _ _ _ i.0 i.1 (c.is_keyed.ensures.keyed c.if-not-is_keyed.false)
          c.is_above_last-rising.ensures.above,
      omega arith,
    )

pub returns-then-not-rising : goal.returns-then-not-rising
returns-then-not-rising g c =
    let e = c.order.ensures.value in
    sym (ap keys_turn (sym c.self.view_is)
    ∙ keys_fall _ _ _ _ c.is_keyed.ensures.same c.if-not-is_keyed.false _
    c.is_above_last-rising.ensures.same (omega arith) c.if-not-rising.true)

pub returns : goal.returns
returns g c =
    let e = c.order.ensures.value in
    ap Products c.new.ensures.value
    ∙ sym (ap keys_turn (sym c.self.view_is)
    ∙ keys_over _ _ _ _ c.is_keyed.ensures.same c.if-not-is_keyed.false _
    c.is_above_last-rising.ensures.same (omega arith) c.if-not-rising.false)

pub new-requires : goal.new-requires
new-requires g c =
    let s = c.self.inside in
    let i = c.self.invariant in
    let e = c.order.ensures.value in
    keys_end s.certificate _
    (subst (KeysSoFar s.certificate (s.next + 1)) c.if-not-rising.false
    (key_turn _ _ _ _ i.0 i.1 (c.is_keyed.ensures.keyed c.if-not-is_keyed.false)
    c.is_above_last-rising.ensures.above)) (omega arith)
