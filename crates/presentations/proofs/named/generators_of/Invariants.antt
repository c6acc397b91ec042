use Rattle.std.proofs.Common.{◌≡◌, ◌+◌, map, take}
use Rattle.presentations.specs.Merging.{letters_in}
use Rattle.presentations.proofs.named.generators_of.Given as goal

abbrev pub invariant-loop-i : goal.invariant-loop-i
invariant-loop-i g l = record {
  letters : map (λ g. g.letter) l.generators.items
      ≡ map (λ a. 97 + a) (letters_in (take l.i l.axes));
  elements : map (λ g. g.element) l.generators.items ≡ take l.i l.products;
}
