use Rattle.std.proofs.Common.{◌≡◌, ◌-◌, ◌*◌, length}
use Rattle.presentations.specs.Numberings.{IsProgress}
use Rattle.presentations.proofs.numbering.numbering_of.Given as goal

abbrev pub invariant-loop-products : goal.invariant-loop-products
invariant-loop-products g l = record {
  progress : IsProgress l.axes l.classes l.numbers.firsts l.numbers.keys l.products.items;
  places : l.numbers.places ≡ length l.classes;
}

abbrev pub decreases-loop-products : goal.decreases-loop-products
decreases-loop-products g l = 256 * length l.axes - length l.products.items
