use Rattle.std.proofs.Common.{◌≡◌, ◌<◌, ◌+◌, Option, Some, None, false, refl, ap, arith}
use Rattle.std.specs.Prelude.{IfNone}
use Rattle.std.specs.Option.{is_some}
use Rattle.checker.proofs.ElementLemmas.{value_below, obeys_at, value_turn, heap_turn}
use Rattle.check_machine.specs.Turns.Phase.{Elements}
use Rattle.check_machine.proofs.TurnLaws.{runs-none}
use Rattle.checker.proofs.ComeLemmas.{runs_turn}
use Rattle.checker.proofs.ElementTurns.{elements_heap, elements_option, leads_nowhere}
use Rattle.checker.proofs.elements.Elements.go_on.Goals as goal

none_of : {A P : Type 0} (r : Option A) → false ≡ is_some r → IfNone r P → P
none_of None e h = h
none_of (Some x) e h = absurd (cc)

pub heaps-init : goal.heaps-init
heaps-init g c =
    let v = c.len-last.ensures in
    let w = c.self.invariant.1 in
    record {
      order = c.order-order.ensures.value;
      last = omega arith;
      lawful = c.order-order.ensures.lawful;
      so_far = c.self.invariant.0;
      within = c.self.invariant.1;
      runs = λ bytes limit. runs-none bytes limit _ _ _ (ap Elements c.self.view_is);
    }

pub heaps-preserved-then-self-order : goal.heaps-preserved-then-self-order
heaps-preserved-then-self-order g c =
    let i = c.heaps.invariant in
    let s = c.heaps.self-inside in
    let none =
    rw (c.deref.ensures.value, i.order) at
    (none_of c.breach.result c.if-is_some.ensures c.breach.ensures.none) in
    let o =
    obeys_at s.certificate i.lawful.in_ranges s.pairs.items s.contexts.items _ _ c.index.result.now
    i.so_far i.within c.index.ensures none in
    let e = i.order in
    let b : s.option + 1 < s.certificate.order = omega arith in
    record {
      order = i.order;
      last = i.last;
      lawful = i.lawful;
      so_far =
          value_turn s.certificate i.lawful.in_ranges s.pairs.items s.contexts.items _ _ i.so_far o b;
      within = i.within;
      runs = λ bytes limit. runs_turn bytes limit _ _ _ _ _ (i.runs bytes limit) (omega arith) refl
          (elements_option limit s.certificate s.pairs.items _ _
          (λ x b. leads_nowhere s.certificate i.lawful.in_ranges s.pairs.items s.contexts.items _ _
          i.so_far i.within c.index.result.now c.index.ensures x b (λ u. none u x b)) b i.within);
    }

pub heaps-preserved : goal.heaps-preserved
heaps-preserved g c =
    let i = c.heaps.invariant in
    let s = c.heaps.self-inside in
    let l = i.last in
    let none =
    rw (c.deref.ensures.value, i.order) at
    (none_of c.breach.result c.if-is_some.ensures c.breach.ensures.none) in
    let o =
    obeys_at s.certificate i.lawful.in_ranges s.pairs.items s.contexts.items _ _ c.index.result.now
    i.so_far i.within c.index.ensures none in
    let v = i.so_far.value in
    let e = i.order in
    let d : s.option + 1 ≡ s.certificate.order = omega arith in
    record {
      order = i.order;
      last = i.last;
      lawful = i.lawful;
      so_far = heap_turn s.certificate i.lawful.in_ranges s.pairs.items s.contexts.items _ _ i.so_far o
          d i.within;
      within = omega arith;
      runs = λ bytes limit. runs_turn bytes limit _ _ _ _ _ (i.runs bytes limit) (omega arith) refl
          (elements_heap limit s.certificate s.pairs.items _ _
          (λ x b. leads_nowhere s.certificate i.lawful.in_ranges s.pairs.items s.contexts.items _ _
          i.so_far i.within c.index.result.now c.index.ensures x b (λ u. none u x b)) d (omega arith));
    }

pub breach-requires : goal.breach-requires
breach-requires g c =
    let i = c.heaps.invariant in
    let s = c.heaps.self-inside in
    let few = c.self.invariant.3 in
    let order = i.order in
    let option = i.so_far.value in
    let long = i.so_far.sets.length_is in (
      omega arith,
      (
        rw c.deref.ensures.value
            (value_below s.certificate i.lawful.in_ranges s.pairs.items s.contexts.items _ _
            c.index.result.now i.so_far i.within c.index.ensures),
        (rw c.deref.ensures.value (omega arith), omega arith),
      ),
    )
