use Rattle.std.proofs.Common.{◌≡◌, ◌∙◌, length, sym, subst, arith}
use Rattle.std.proofs.lemmas.Bool.{false≢true}
use Rattle.presentations.specs.declared.TheConstants.{LETTERS}
use Rattle.relations.specs.Bases.{Precedes}
use Rattle.relations.proofs.Each.{each-next}
use Rattle.normal_forms.proofs.pairs.are_oriented.Goals as goal

pub returns-then-not-comes_before : goal.returns-then-not-comes_before
returns-then-not-comes_before c =
    let rule = c.index-rules-k.result in (
      λ t. absurd (false≢true t),
      λ are.
          let e = c.if-not-comes_before.ensures in
          e.1 (subst (λ r. Precedes LETTERS r.1 r.0) (sym (c.rule.view_is ∙ c.index-rules-k.is))
          (are.falls c.loop-k.k rule (omega (arith, c.loop-k-test.true)))),
    )

pub loop-k-preserved : goal.loop-k-preserved
loop-k-preserved c =
    let rule = c.index-rules-k.result in
    let is = c.rule.view_is ∙ c.index-rules-k.is in
    record {
      long =
          each-next (λ r. (length r.0 ≡ LETTERS) × (length r.1 ≡ LETTERS)) c.args.rules.now c.loop-k.k rule
          (omega (arith, c.loop-k-test.true)) c.loop-k.invariant.long
          (subst (λ r. (length r.0 ≡ LETTERS) × (length r.1 ≡ LETTERS)) is c.rule.told);
      falls =
          each-next (λ r. Precedes LETTERS r.1 r.0) c.args.rules.now c.loop-k.k rule
          (omega (arith, c.loop-k-test.true)) c.loop-k.invariant.falls
          (subst (λ r. Precedes LETTERS r.1 r.0) is
          (c.comes_before.ensures.0 c.if-not-comes_before.false));
    }
