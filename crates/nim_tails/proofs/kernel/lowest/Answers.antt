use Rattle.std.proofs.Common.{◌≡◌, ℕ, ◌+◌, ◌<◌, ◌∙◌, ap, sym, subst}
use Rattle.misere_theory.specs.Certificates.{Certificate, claim_of}
use Rattle.nim_tails.proofs.Groups.{IsDivided, divided_next}
use Rattle.nim_tails.proofs.kernel.lowest.Goals as goal

pub loop-x-preserved : goal.loop-x-preserved
loop-x-preserved c =
    let d = c.args.certified.now in
    let x = c.loop-x.x in
    let m = c.cert.ensures.accepted.represents.monoid in
    let e : c.order-x-end.result ≡ d.order =
    c.order-x-end.ensures.value ∙ ap (λ (z : Certificate). z.order) c.cert.ensures.same in
    let less = c.loop-x-test.true in
    let l : x < d.order = subst (λ n. x < n) e less in
    record {
      within = c.times-all.ensures.within;
      each =
          subst (λ v. (y : ℕ) → y < x + 1 → IsDivided (claim_of d) m y v) (sym c.times-all.ensures.value)
          (divided_next (claim_of d) m c.loop-x.all x c.loop-x.invariant.within l
          c.loop-x.invariant.each);
    }
