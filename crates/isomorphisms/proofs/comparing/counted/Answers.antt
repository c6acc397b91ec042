use Rattle.std.proofs.Common.{◌≢◌, ◌∙◌, ap, arith, sym}
use Rattle.misere_theory.specs.Certificates.{Certificate, claim_of}
use Rattle.isomorphisms.specs.Profiles.{idempotents, portion_size}
use Rattle.isomorphisms.proofs.Kept.{idempotents-kept, order-kept, portion-kept}
use Rattle.isomorphisms.proofs.comparing.counted.Goals as goal

pub returns-then-order-clause-told : goal.returns-then-order-clause-told
returns-then-order-clause-told g c =
    let one = ap (λ (z : Certificate). z.order) c.cert.ensures.same in
    let other = ap (λ (z : Certificate). z.order) c.cert-2.ensures.same in
    let apart : c.args.a.now.order ≢ c.args.b.now.order =
    λ e.
    c.if-order.true
    (omega (arith, one, other, c.order.ensures.value, c.order-2.ensures.value, e)) in (
      apart,
      λ f h i. apart (order-kept (claim_of c.args.a.now) (claim_of c.args.b.now) f h i),
    )

pub returns-then-portion_size-clause-told : goal.returns-then-portion_size-clause-told
returns-then-portion_size-clause-told g c =
    let a = claim_of c.args.a.now in
    let b = claim_of c.args.b.now in
    let apart : portion_size a ≢ portion_size b =
    λ e. c.if-portion_size.true (c.portion_size.ensures ∙ (e ∙ sym c.portion_size-2.ensures)) in
    (apart, λ f h i. apart (portion-kept a b f h i))

pub returns-then-idempotents-clause-told : goal.returns-then-idempotents-clause-told
returns-then-idempotents-clause-told g c =
    let a = claim_of c.args.a.now in
    let b = claim_of c.args.b.now in
    let apart : idempotents a ≢ idempotents b =
    λ e. c.if-idempotents.true (c.idempotents.ensures ∙ (e ∙ sym c.idempotents-2.ensures)) in (
      apart,
      λ f h i.
          apart (idempotents-kept a b f h i c.cert.ensures.accepted.represents.monoid),
    )
