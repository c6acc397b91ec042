use Rattle.compact_certificates.proofs.Following.{accepted_follows, every_heap_first, first_of_heap}
use Rattle.compact_certificates.proofs.accepted_certificates_follow.Goals as goal

pub returns : goal.returns
returns g = record {
  follow = λ c a. accepted_follows c a;
  heaps = λ c h a. every_heap_first c a h;
  firsts = λ c e a some l. first_of_heap c a e some l;
}
