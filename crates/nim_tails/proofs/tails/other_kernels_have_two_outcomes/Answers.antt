use Rattle.nim_tails.proofs.Failed.{by_heap, by_zero}
use Rattle.nim_tails.proofs.tails.other_kernels_have_two_outcomes.Goals as goal

pub returns : goal.returns
returns g = record {
  sums = λ M code c e G nim n x right k good sums h l other.
      by_heap M code c e G right k good nim sums n x h l other;
  one = λ M code c e G nim x right k good sums l i z other.
      by_zero M code c e G right k good nim sums x l i z other;
}
