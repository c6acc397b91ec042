use Rattle.std.proofs.Common.{refl, arith, ap}
use Rattle.check_machine.specs.Turns.Phase.{Keys}
use Rattle.check_machine.proofs.KeyLaws.{key_turn}
use Rattle.check_machine.proofs.TurnLaws.{runs-none}
use Rattle.checker.proofs.ComeLemmas.{runs_turn}
use Rattle.checker.proofs.LoopTurns.{keys_next}
use Rattle.checker.proofs.keys.Keys.go_on.Goals as goal

pub keys-init : goal.keys-init
keys-init g c =
    let v = c.order-last.ensures.value in
    let w = c.order-last.ensures.lawful.in_ranges.order.0 in
    record {
      last = omega arith;
      lawful = c.order-last.ensures.lawful;
      so_far = c.self.invariant.0;
      within = c.self.invariant.1;
      runs = λ bytes limit. runs-none bytes limit _ _ _ (ap Keys c.self.view_is);
    }

pub keys-preserved : goal.keys-preserved
keys-preserved g c =
    let i = c.keys.invariant in
    let l = i.last in
    record {
      last = i.last;
      lawful = i.lawful;
      so_far =
          key_turn _ _ _ _ i.so_far i.within (c.is_keyed.ensures.keyed c.if-is_keyed.true)
          c.is_above_last.ensures.above;
      within = omega arith;
      runs = λ bytes limit. runs_turn bytes limit _ _ _ _ _ (i.runs bytes limit) (omega arith) refl
          (keys_next _ _ _ _ c.is_keyed.ensures.same c.if-is_keyed.true _
          c.is_above_last.ensures.same (omega arith));
    }
