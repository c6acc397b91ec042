use Rattle.compact_certificates.proofs.Back.{comes_back, left_compact}
use Rattle.compact_certificates.proofs.Following.{accepted_follows}
use Rattle.compact_certificates.proofs.what_follows_comes_back.Goals as goal

pub returns : goal.returns
returns g = record {
  back = λ c t f. comes_back c t f;
  compact = λ c t f. left_compact c t f;
  accepted = λ c a. let r = a.in_ranges in
      comes_back c (record { words = r.words.0; rows = r.rows }) (accepted_follows c a);
}
