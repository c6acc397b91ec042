use Rattle.compact_certificates.proofs.Expanding.{made_table, made_apart, made_follows, left_again}
use Rattle.compact_certificates.proofs.what_is_made_follows.Goals as goal

pub returns : goal.returns
returns g = record {
  table = λ c h. made_table c h;
  apart = λ c h. made_apart c h;
  follows = λ c h. made_follows c h;
  again = λ c h. left_again c h;
}
