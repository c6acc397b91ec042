use Rattle.std.proofs.Common.{◌≡◌, ◌<◌, ◌≤◌, ◌∙◌, ap, sym, subst, arith}
use Rattle.std.specs.Prelude.{slice_index}
use Rattle.misere_theory.specs.Certificates.{Certificate, kind_of}
use Rattle.nim_tails.specs.Normal.{AreNimValues}
use Rattle.nim_tails.specs.Values.{IsNimFault}
use Rattle.nim_tails.specs.Tails.{AreElementSums, IsNormal}
use Rattle.nim_tails.proofs.Tested.{raised}
use Rattle.nim_tails.proofs.elements.is_normal.Goals as goal

pub returns-in_err-values : goal.returns-in_err-values
returns-in_err-values c =
    let d = c.args.certified.now in
    let f = c.in_err-values.field-0.0 in
    let same = c.cert-cert.ensures.same in
    let e : c.code.result.now ≡ d.code = c.code.ensures ∙ ap (λ (z : Certificate). z.code) same in
    let k : c.heaps.result ≡ kind_of d = c.heaps.ensures.value ∙ ap kind_of same in
    raised (λ _. IsNormal d c.args.one) d f c.from_residual.result c.requires.partial
    c.from_residual.ensures.1
    (subst (λ M. IsNimFault d.code M f) k
    (subst (λ code. IsNimFault code c.heaps.result f) e c.in_err-values.ensures.fault))

pub is_normal_by-requires-clause-values : goal.is_normal_by-requires-clause-values
is_normal_by-requires-clause-values c =
    let d = c.args.certified.now in
    let k = kind_of d in
    let same = c.cert-cert.ensures.same in
    let e : c.code.result.now ≡ d.code = c.code.ensures ∙ ap (λ (z : Certificate). z.code) same in
    let f : c.heaps.result ≡ k = c.heaps.ensures.value ∙ ap kind_of same in
    let some = c.requires.partial in
    let top : k ≤ c.heaps.result = omega arith in
    let positive : 0 < k = omega arith in
    subst (λ vs. AreNimValues k d.code (slice_index vs)) (sym c.as_slice-2.ensures.value)
    (subst (λ code. AreNimValues k code (slice_index c.in_ok-values.values.items)) e
    (c.in_ok-values.ensures.values k positive top))

pub is_normal_by-requires-clause-sums : goal.is_normal_by-requires-clause-sums
is_normal_by-requires-clause-sums c =
    let d = c.args.certified.now in
    subst (λ vs. AreElementSums d vs c.as_slice-3.result.now)
    (c.as_slice.ensures.value ∙ sym c.as_slice-2.ensures.value)
    (subst (AreElementSums d c.as_slice.result.now) (sym c.as_slice-3.ensures.value)
    c.in_ok-sums.ensures)
