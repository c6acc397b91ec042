use Rattle.misere_theory.specs.Certificates.{IsHeapOf}
use Rattle.misere_library.proofs.Positions.{speaks_here, p_here, n_here}
use Rattle.positions.specs.declared.outcome.Outcome.TheVariants.{P, N}
use Rattle.misere_library.proofs.asking.number_at.Goals as goal

pub returns-in-Value : goal.returns-in-Value
returns-in-Value c =
    rw c.in-Value.is
    (speaks_here (IsHeapOf c.args.certified.now) c.args.heaps.now c.requires, c.value-value.ensures.value)

pub returns-then-holds : goal.returns-then-holds
returns-then-holds c =
    let C = c.args.certified.now in
    let X = c.args.heaps.now in
    let speaks = speaks_here (IsHeapOf C) X c.requires in
    rw c.in-Outcome.is (
      speaks,
      (
        P,
        c.number.ensures,
        p_here C c.value-value.ensures.accepted X speaks c.value-value.result c.holds.result
            c.value-value.ensures.value c.holds.ensures c.if-holds.true,
      ),
    )

pub returns-else-holds : goal.returns-else-holds
returns-else-holds c =
    let C = c.args.certified.now in
    let X = c.args.heaps.now in
    let speaks = speaks_here (IsHeapOf C) X c.requires in
    rw c.in-Outcome.is (
      speaks,
      (
        N,
        c.number-else-holds.ensures,
        n_here C c.value-value.ensures.accepted X speaks c.value-value.result c.holds.result
            c.value-value.ensures.value c.holds.ensures c.if-holds.false,
      ),
    )
