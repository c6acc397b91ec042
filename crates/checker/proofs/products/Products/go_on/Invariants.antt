use Rattle.std.proofs.Common.{◌≡◌, ℕ, List, ◌+◌, ◌<◌}
use Rattle.check_machine.specs.LawfulCertificates.{IsLawful}
use Rattle.check_machine.specs.SoFar.{ProductsSoFar}
use Rattle.check_machine.specs.Turns.{Runs}
use Rattle.check_machine.specs.Turns.Phase.{Products as AtProducts}
use Rattle.checker.proofs.products.Products.go_on.Given as goal

abbrev pub invariant-products : goal.invariant-products
invariant-products g l =
    let s = l.self-inside in
    record {
      last : l.last + 1 ≡ s.certificate.order;
      heaps : l.heaps ≡ s.certificate.start + s.certificate.period;
      lawful : IsLawful s.certificate;
      so_far : ProductsSoFar s.certificate s.element s.heap;
      within : s.element < s.certificate.order;
      runs : (bytes : List ℕ) (limit : ℕ)
          → Runs bytes limit (AtProducts l.fn.self) l.initial.left l.left
          (AtProducts (record { certificate = s.certificate; element = s.element; heap = s.heap }));
    }

abbrev pub decreases-products : goal.decreases-products
decreases-products g l = l.left
