use Rattle.std.proofs.Common.{◌*◌, ◌<◌, sym, subst, arith}
use Rattle.std.proofs.lemmas.List.Elements.{All-weaker}
use Rattle.answers.specs.Portions.{IsPortion}
use Rattle.checker.proofs.closing.accepted.Goals as goal

pub set_of-inside-requires : goal.set_of-inside-requires
set_of-inside-requires g c =
    let s = c.certificate.inside in
    let r = c.certificate.invariant.whole.writable.in_ranges in
    let most = r.order.1 in (
      omega arith,
      rw c.deref.ensures.value
          (All-weaker (λ x. x < s.table.order) (λ x. x < 64 * 64) (λ x l. omega arith)
          s.lines.portion.items r.portion.1),
    )

pub new-requires-clause-portion : goal.new-requires-clause-portion
new-requires-clause-portion g c =
    subst (λ d. IsPortion d c.set_of-inside.result) (sym c.from_fields-cert.ensures)
    (λ x. rw c.deref.ensures.value at c.set_of-inside.ensures x)
