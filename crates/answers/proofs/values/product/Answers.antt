use Rattle.std.proofs.Common.{◌≡◌, ◌∙◌, ap, arith}
use Rattle.std.specs.Prelude.{drop}
use Rattle.misere_theory.specs.Certificates.{claim_of}
use Rattle.misere_theory.specs.Quotients.{value}
use Rattle.answers.proofs.values.product.Goals as goal

pub returns : goal.returns
returns g c =
    let end : c.loop-at.at ≡ 0 = omega arith in
    record {
      value = c.loop-at.invariant.1
          ∙ ap (λ k. value (claim_of c.args.cert.now) (drop k c.args.heaps.now)) end;
      within = c.loop-at.invariant.2;
    }
