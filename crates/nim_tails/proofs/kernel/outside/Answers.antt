use Rattle.std.proofs.Common.{◌≡◌, ◌≢◌, ℕ, ◌+◌, ◌∙◌, ap, arith, subst, sym}
use Rattle.misere_theory.specs.Certificates.{Certificate, times_of}
use Rattle.nim_tails.specs.Tails.{Counts}
use Rattle.nim_tails.specs.Tails.Counts.{NoNumber, OneMore, NoMore}
use Rattle.nim_tails.proofs.kernel.outside.Goals as goal
use Rattle.nim_tails.proofs.kernel.outside.Goals.{then-times-x, else-times-x}

pub loop-x-init : goal.loop-x-init
loop-x-init c = record { within = omega arith; counts = NoNumber }

pub loop-x-preserved : goal.loop-x-preserved
loop-x-preserved c =
    let d = c.args.certified.now in
    let P = λ (x : ℕ). times_of d c.args.one x ≢ x in
    let old = c.loop-x.invariant.counts in
    elim c.if-times-x.branch [
      | then-times-x w ↦ record {
        within = omega arith;
        counts =
            subst (Counts P (c.loop-x.x + 1)) (sym w.count-is)
            (OneMore (λ e. w.if-times-x.true (c.times.ensures.value ∙ e)) old);
      }
      | else-times-x w ↦ record {
        within = omega arith;
        counts =
            subst (Counts P (c.loop-x.x + 1)) (sym w.count-is)
            (NoMore (λ f. f (sym c.times.ensures.value ∙ w.if-times-x.false)) old);
      }
    ]

pub returns : goal.returns
returns c =
    let d = c.args.certified.now in
    let end = c.loop-x-test.false in
    let top = c.loop-x.auto.x-end in
    let e : c.loop-x.x ≡ c.order-x-end.result = omega arith in
    subst (λ n. Counts (λ x. times_of d c.args.one x ≢ x) n c.loop-x.count)
    (e ∙ c.order-x-end.ensures.value ∙ ap (λ (z : Certificate). z.order) c.cert.ensures.same)
    c.loop-x.invariant.counts
