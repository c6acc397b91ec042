use Rattle.std.proofs.Common.{◌∙◌, subst, arith}
use Rattle.std.proofs.lemmas.Bool.{false≢true}
use Rattle.relations.proofs.Each.{each-next}
use Rattle.presented_forms.specs.Form.{MayHold}
use Rattle.presented_forms.proofs.Reach.{may-hold}
use Rattle.presented_forms.proofs.portion.stands_for_standard.Goals as goal

pub loop-k-preserved : goal.loop-k-preserved
loop-k-preserved c =
    each-next (λ r. MayHold c.args.cycles.now r.0 c.args.word.now → ⊥) c.args.rules.now c.loop-k.k
    c.index-rules-k.result (omega (arith, c.loop-k-test.true)) c.loop-k.invariant
    (subst (λ r. MayHold c.args.cycles.now r.0 c.args.word.now → ⊥) (c.rule.view_is ∙ c.index-rules-k.is)
    (λ h. false≢true (c.if-may_hold.ensures h)))

pub returns : goal.returns
returns c = λ t w long is. record {
  long = long;
  free = λ k d lt divides.
      c.loop-k.invariant k d (omega (arith, lt, c.loop-k-test.false))
      (may-hold c.args.cycles.now _ w c.args.word.now long is divides);
}
