use Rattle.dominance.proofs.Quotient.{exactly, infinite as infinitely_many, no_finite, represents as by_triples}
use Rattle.dominance.proofs.triples_are_the_quotient.Goals as goal

pub returns : goal.returns
returns g = record {
  indistinguishable = exactly;
  infinite = infinitely_many;
  no_claim = no_finite;
  represents = λ code label right has. by_triples label has code right;
}
