use Rattle.std.proofs.Common.{◌≡◌, ◌∙◌, sym, ap, bit_xor}
use Rattle.std.specs.Prelude.{slice_index}
use borrow.Author.Count.{below_more}
use Rattle.misere_theory.specs.Certificates.{phi_at, times_of}
use Rattle.nim_tails.proofs.elements.agrees.Goals as goal

pub loop-x-preserved : goal.loop-x-preserved
loop-x-preserved c =
    let d = c.args.certified.now in
    let sums = c.args.sums.now in
    let n = c.args.heap in
    let x = c.loop-x.x in
    let e : c.times-product.result ≡ times_of d (phi_at d n) x =
    c.times-product.ensures.value ∙ ap (λ y. times_of d y x) c.element-element.ensures.value in
    below_more (λ k. slice_index sums (times_of d (phi_at d n) k)
    ≡ bit_xor (slice_index c.args.values.now n) (slice_index sums k)) x c.loop-x.invariant
    (ap (slice_index sums) (sym e) ∙ c.if-sums-product.false)
