use Rattle.dominance.proofs.Triples.{identity as one_times, commutes as other_way, associates as regrouped, element_times}
use Rattle.dominance.proofs.Positions.{triple-append}
use Rattle.dominance.proofs.Rulers.{ruled_exactly}
use Rattle.dominance.proofs.triples_are_a_monoid.Goals as goal

pub returns : goal.returns
returns g = record {
  closed = element_times;
  identity = one_times;
  commutes = other_way;
  associates = regrouped;
  sums = triple-append;
  rulers = ruled_exactly;
}
