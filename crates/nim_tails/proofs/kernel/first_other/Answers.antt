use Rattle.std.proofs.Common.{◌≡◌, ◌<◌, ◌∙◌, ap, refl, sym, subst, arith}
use Rattle.std.proofs.lemmas.Bool.{true≢false}
use borrow.Author.Count.{below_more}
use Rattle.misere_theory.specs.Certificates.{Certificate, claim_of, times_of}
use Rattle.nim_tails.specs.NormalTails.{IsInLeastIdeal}
use Rattle.nim_tails.specs.Tails.{IsSquareRoot}
use Rattle.nim_tails.proofs.Groups.{multiples_inside}
use Rattle.nim_tails.proofs.kernel.first_other.Goals as goal

pub returns-then-not-is_square_root : goal.returns-then-not-is_square_root
returns-then-not-is_square_root c =
    let d = c.args.certified.now in
    let y = c.loop-y.y in
    let m = c.cert.ensures.accepted.represents.monoid in
    let e : c.order-y-end.result ≡ d.order =
    c.order-y-end.ensures.value ∙ ap (λ (z : Certificate). z.order) c.cert.ensures.same in
    let less = c.loop-y-test.true in
    let l : y < d.order = subst (λ n. y < n) e less in (
      subst (IsInLeastIdeal (claim_of d)) (sym c.times-x.ensures.value)
          (multiples_inside (claim_of d) m c.args.low y c.requires l),
      λ s. true≢false (sym (c.if-not-is_square_root.ensures.1 s)),
    )

pub loop-y-preserved : goal.loop-y-preserved
loop-y-preserved c =
    let d = c.args.certified.now in
    below_more (λ k. IsSquareRoot (claim_of d) (times_of d c.args.low k)) c.loop-y.y
    c.loop-y.invariant
    (subst (IsSquareRoot (claim_of d)) c.times-x.ensures.value
    (c.if-not-is_square_root.ensures.0 refl))

pub returns : goal.returns
returns c = λ y l.
    let d = c.args.certified.now in
    let e : c.order-y-end.result ≡ d.order =
    c.order-y-end.ensures.value ∙ ap (λ (z : Certificate). z.order) c.cert.ensures.same in
    let end = c.loop-y-test.false in
    let h : y < c.order-y-end.result = subst (λ n. y < n) (sym e) l in
    c.loop-y.invariant y (omega arith)
