use Rattle.std.proofs.Common.{sym, subst}
use Rattle.std.specs.Prelude.{IsTrue}
use Rattle.descriptions.specs.Invariants.{IsInKernel, IsOf}
use Rattle.descriptions.proofs.choosing.is_of.Goals as goal

pub returns-in-Kernel : goal.returns-in-Kernel
returns-in-Kernel c =
    let C = c.args.certified.now in
    let x = c.args.x in
    let r = c.is_in_kernel.result in
    subst (λ p. (IsTrue r → IsOf C p x) × (IsOf C p x → IsTrue r)) (sym c.in-Kernel.is)
    (subst (λ t. (IsTrue r → IsInKernel t x) × (IsInKernel t x → IsTrue r)) c.requires.table
    c.is_in_kernel.ensures)
