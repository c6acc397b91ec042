use Rattle.std.proofs.Common.{◌≡◌, take, vec_len}
use Rattle.std.specs.List.{AllZip}
use Rattle.descriptions.specs.Described.{IsFirstHeap}
use Rattle.descriptions.proofs.finding.first_heaps.Given as goal

abbrev pub invariant-loop-element : goal.invariant-loop-element
invariant-loop-element l = record {
  heaps : AllZip (IsFirstHeap l.certified) (take l.element-index l.elements) l.heaps.items;
  long : vec_len l.heaps ≡ l.element-index;
}
