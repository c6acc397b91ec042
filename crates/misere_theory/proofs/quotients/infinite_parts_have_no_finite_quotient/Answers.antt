use Rattle.std.proofs.Common.{◌≡◌, true}
use Rattle.misere_theory.specs.Games.{IsHeap}
use Rattle.misere_theory.specs.Kinds.{IsHeapIn}
use Rattle.misere_theory.proofs.NoQuotient.{no_quotient, no_certificate}
use Rattle.misere_theory.proofs.quotients.infinite_parts_have_no_finite_quotient.Goals as goal

pub returns : goal.returns
returns g = record {
  whole = λ code d infinite r. no_quotient IsHeap IsHeap (λ n h. h) code d infinite r;
  claims = λ M code heaps d infinite within r.
      no_quotient (λ n. heaps n ≡ true) (IsHeapIn M) within code d infinite r;
  certificates = λ M heaps d infinite within far a.
      no_certificate M (λ n. heaps n ≡ true) within d infinite far a;
}
