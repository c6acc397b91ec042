use Rattle.std.proofs.Common.{◌≡◌, ℕ, List, ◌+◌, ◌<◌, length}
use Rattle.check_machine.specs.LawfulCertificates.{IsLawful}
use Rattle.check_machine.specs.Closings.{ElementsSoFar}
use Rattle.check_machine.specs.Turns.{Runs}
use Rattle.check_machine.specs.Turns.Phase.{Elements as AtElements}
use Rattle.checker.proofs.elements.Elements.go_on.Given as goal

abbrev pub invariant-heaps : goal.invariant-heaps
invariant-heaps g l =
    let s = l.self-inside in
    record {
      order : l.order ≡ s.certificate.order;
      last : l.last + 1 ≡ length s.pairs.items;
      lawful : IsLawful s.certificate;
      so_far : ElementsSoFar s.certificate s.pairs.items s.contexts.items s.heap s.option;
      within : s.heap < length s.pairs.items;
      runs : (bytes : List ℕ) (limit : ℕ)
          → Runs bytes limit (AtElements l.fn.self) l.initial.left l.left
          (AtElements
          (record { certificate = s.certificate; pairs = s.pairs.items; heap = s.heap; option = s.option }));
    }

abbrev pub decreases-heaps : goal.decreases-heaps
decreases-heaps g l = l.left
