use Rattle.std.proofs.Common.{◌≡◌, ◌∙◌, ap, refl, sym, subst}
use Rattle.std.proofs.lemmas.Bool.{true≢false}
use Rattle.misere_theory.specs.Certificates.{Certificate, kind_of}
use Rattle.nim_tails.specs.NormalTails.{IsLongEnough}
use Rattle.nim_tails.proofs.Tested.{last_is, tail_is}
use Rattle.nim_tails.proofs.whole.tail_of.Goals as goal

pub returns-then-not-is_long_enough : goal.returns-then-not-is_long_enough
returns-then-not-is_long_enough c =
    let d = c.args.certified.now in
    let N = c.last_outside-above.result in
    let w = c.last_outside-above.ensures in
    let e : c.heaps-most.result ≡ kind_of d =
    c.heaps-most.ensures.value ∙ ap kind_of c.cert.ensures.same in
    let f : c.code.result.now ≡ d.code =
    c.code.ensures ∙ ap (λ (z : Certificate). z.code) c.cert-2.ensures.same in (
      last_is d c.cert.ensures.accepted c.in_ok-one.one c.in_ok-one.ensures N w.within w.outside
          w.inside,
      λ l. true≢false (sym (c.if-not-is_long_enough.ensures.1
          (subst (λ M. IsLongEnough M c.code.result.now N) (sym e)
          (subst (λ code. IsLongEnough (kind_of d) code N) (sym f) l)))),
    )

pub returns : goal.returns
returns c =
    let d = c.args.certified.now in
    let a = c.cert.ensures.accepted in
    let one = c.in_ok-one.one in
    let k = c.in_ok-one.ensures in
    let N = c.last_outside-above.result in
    let w = c.last_outside-above.ensures in
    let e : c.heaps-most.result ≡ kind_of d =
    c.heaps-most.ensures.value ∙ ap kind_of c.cert.ensures.same in
    let f : c.code.result.now ≡ d.code =
    c.code.ensures ∙ ap (λ (z : Certificate). z.code) c.cert-2.ensures.same in
    tail_is d a one k (record { above = N; outside = c.outside-outside.result })
    (last_is d a one k N w.within w.outside w.inside) w.inside
    (subst (λ code. IsLongEnough (kind_of d) code N) f
    (subst (λ M. IsLongEnough M c.code.result.now N) e
    (c.if-not-is_long_enough.ensures.0 refl)))
    c.in_ok-is_normal.ensures c.outside-outside.ensures
