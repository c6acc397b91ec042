use Rattle.misere_theory.specs.Games.{IsHeap}
use Rattle.misere_theory.proofs.Classes.{alike-refl, alike-sym, alike-trans, sums_alike, exchanged_parts}
use Rattle.misere_theory.proofs.games.sums_respect_indistinguishability.Goals as goal

pub returns : goal.returns
returns g = record {
  itself = alike-refl IsHeap;
  turned = alike-sym IsHeap;
  onward = alike-trans IsHeap;
  sums = sums_alike IsHeap;
  parts = exchanged_parts IsHeap;
}
