use Rattle.std.proofs.Common.{◌≡◌, ℕ, List, ◌+◌, ◌<◌}
use Rattle.check_machine.specs.LawfulCertificates.{IsLawful}
use Rattle.check_machine.specs.SoFar.{KeysSoFar}
use Rattle.check_machine.specs.Turns.{Runs}
use Rattle.check_machine.specs.Turns.Phase.{Keys as AtKeys}
use Rattle.checker.proofs.keys.Keys.go_on.Given as goal

abbrev pub invariant-keys : goal.invariant-keys
invariant-keys g l =
    let s = l.self-inside in
    record {
      last : l.last + 1 ≡ s.certificate.order;
      lawful : IsLawful s.certificate;
      so_far : KeysSoFar s.certificate s.next s.rising;
      within : s.next < s.certificate.order;
      runs : (bytes : List ℕ) (limit : ℕ)
          → Runs bytes limit (AtKeys l.fn.self) l.initial.left l.left
          (AtKeys (record { certificate = s.certificate; next = s.next; rising = s.rising }));
    }

abbrev pub decreases-keys : goal.decreases-keys
decreases-keys g l = l.left
