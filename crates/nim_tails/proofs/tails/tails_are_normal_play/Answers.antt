use Rattle.nim_tails.proofs.Ideals.{multiple_of_kernel}
use Rattle.nim_tails.proofs.Beyond.{same, same_sums}
use Rattle.nim_tails.proofs.tails.tails_are_normal_play.Goals as goal

pub returns : goal.returns
returns g = record {
  outcomes = λ M N code c e G nim good right normal behind long.
      same M N code c e G nim good right normal
      (λ n l h. multiple_of_kernel c right.monoid e normal.regular (c.phi n) (behind n l h)) long;
  nim_sums = same_sums;
}
