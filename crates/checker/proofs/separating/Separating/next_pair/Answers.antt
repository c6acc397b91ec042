use Rattle.std.proofs.Common.{arith, refl, sym, subst, ap, ◌∙◌}
use Rattle.check_machine.specs.Turns.{separating_turn}
use Rattle.checker.specs.Separates.{IsTold}
use Rattle.checker.proofs.LoopTurns.{separating_pair, separating_row, separating_over}
use Rattle.checker.proofs.PairTurns.{told_pair, told_row, told_all}
use Rattle.checker.proofs.separating.Separating.next_pair.Goals as goal

pub invariant_of-self : goal.invariant_of-self
invariant_of-self g c =
    let i = c.self.invariant in
    let t = subst IsTold (sym c.self.view_is) c.requires in
    let p = c.pairs-pairs.ensures.value in (
      told_row _ t i.0 i.1 (c.if-self-order.true ∙ c.order.ensures.value),
      omega (arith, c.if-self-pairs.false),
      i.2,
    )

pub invariant_of-self-else-self-order : goal.invariant_of-self-else-self-order
invariant_of-self-else-self-order g c =
    let i = c.self.invariant in
    let t = subst IsTold (sym c.self.view_is) c.requires in
    let p = c.pairs-pairs.ensures.value in (
      told_pair _ t i.0 i.1 (λ e. c.if-self-order.false (e ∙ sym c.order.ensures.value)),
      omega (arith, c.if-self-pairs.false),
      i.2,
    )

pub returns-then-self-pairs : goal.returns-then-self-pairs
returns-then-self-pairs g c = rw (sym c.self.view_is)
    (let i = c.self.invariant in
    let t = subst IsTold (sym c.self.view_is) c.requires in
    let p = c.pairs-pairs.ensures.value in (
      refl,
      told_all _ t i.0 i.1 (omega arith),
      λ limit. separating_over limit _ _ _ _ _ t.tells t.given (omega arith) t.ranges,
    ))

pub returns-then-self-order : goal.returns-then-self-order
returns-then-self-order g c =
    let i = c.self.invariant in
    let t = subst IsTold (sym c.self.view_is) c.requires in
    let p = c.pairs-pairs.ensures.value in
    λ limit. ap (separating_turn limit) (sym c.self.view_is)
    ∙ separating_row limit _ _ _ _ _ t.tells t.given (omega (arith, c.if-self-pairs.false))
    (c.if-self-order.true ∙ c.order.ensures.value)

pub returns-else-self-order : goal.returns-else-self-order
returns-else-self-order g c =
    let i = c.self.invariant in
    let t = subst IsTold (sym c.self.view_is) c.requires in
    let p = c.pairs-pairs.ensures.value in
    λ limit. ap (separating_turn limit) (sym c.self.view_is)
    ∙ separating_pair limit _ _ _ _ _ t.tells t.given (omega (arith, c.if-self-pairs.false))
    (λ e. c.if-self-order.false (e ∙ sym c.order.ensures.value))
