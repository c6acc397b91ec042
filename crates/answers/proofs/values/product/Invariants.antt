use Rattle.std.proofs.Common.{◌≡◌, ◌<◌, ◌≤◌, length}
use Rattle.std.specs.Prelude.{drop}
use Rattle.misere_theory.specs.Certificates.{claim_of}
use Rattle.misere_theory.specs.Quotients.{value}
use Rattle.answers.proofs.values.product.Given as goal

abbrev pub invariant-loop-at : goal.invariant-loop-at
invariant-loop-at g l = (l.at ≤ length l.heaps)
    × (l.all ≡ value (claim_of l.cert) (drop l.at l.heaps)) × (l.all < l.cert.order)

abbrev pub decreases-loop-at : goal.decreases-loop-at
decreases-loop-at g l = l.at
