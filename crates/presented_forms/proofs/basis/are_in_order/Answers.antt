use Rattle.std.proofs.Common.{◌∙◌, subst, arith}
use Rattle.std.specs.Prelude.{slice_index_or}
use Rattle.presented_forms.specs.Form.{ComesEarlier}
use Rattle.presented_forms.proofs.Pairs.{pairs_next}
use Rattle.presented_forms.proofs.basis.are_in_order.Goals as goal

pub loop-k-preserved : goal.loop-k-preserved
loop-k-preserved c =
    let rules = c.args.rules.now in
    let k = c.loop-k.k in
    let other = slice_index_or rules k c.index-rules-k-in-loop-k.result in
    pairs_next (λ r s. ComesEarlier r.0 s.0) rules k c.index-rules-k.result c.index-rules-k-in-loop-k.result
    (omega (arith, c.loop-k-test.true)) c.loop-k.invariant
    (subst (λ r. ComesEarlier r.0 other.0) (c.one.view_is ∙ c.index-rules-k.is)
    (subst (λ s. ComesEarlier c.one.inside.left s.0) (c.other.view_is ∙ c.index-rules-k-in-loop-k.is)
    (c.comes_earlier.ensures c.if-not-comes_earlier.false)))
