use Rattle.std.proofs.Common.{arith, get_or, subst}
use Rattle.std.specs.Prelude.{Contains}
use Rattle.std.proofs.lemmas.Grind.{common_steps}
use Rattle.std.proofs.lemmas.List.Elements.{All-get_or}
use Rattle.descriptions.specs.Described.{IsFirstHeap, TellsFirstHeap}
use Rattle.descriptions.proofs.Lists.{pairs-next}
use Rattle.descriptions.proofs.finding.first_heaps.Goals as goal

pub returns-in_default : goal.returns-in_default
returns-in_default c = λ all.
    subst
    (TellsFirstHeap c.args.certified.now (get_or c.args.elements.now c.loop-element.element-index 0))
    c.in_default.is c.first_heap.ensures
    (All-get_or (Contains c.args.certified.now.phi) c.args.elements.now c.loop-element.element-index 0
    c.loop-element-test.true all)

pub loop-element-preserved : goal.loop-element-preserved
loop-element-preserved c = record {
  heaps =
      pairs-next (IsFirstHeap c.args.certified.now) c.args.elements.now c.loop-element.heaps.items
      c.push.new.self.items c.loop-element.element-index 0 c.in-Some.heap c.loop-element-test.true
      c.loop-element.invariant.heaps c.in-Some.ensures c.in_ok-push.ensures.items;
  long = grind (arith, common_steps);
}
