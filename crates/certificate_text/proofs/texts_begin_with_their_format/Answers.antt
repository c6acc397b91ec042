use Rattle.std.proofs.Common.{arith}
use Rattle.certificate_text.proofs.Whole.{begins_with_format}
use Rattle.certificate_text.proofs.texts_begin_with_their_format.Goals as goal

pub returns : goal.returns
returns g = record {
  first = λ b c p e. begins_with_format b c 1 p e (omega arith);
  second = λ b c p e. begins_with_format b c 2 p e (omega arith);
  third = λ b c p e. begins_with_format b c 3 p e (omega arith);
}
