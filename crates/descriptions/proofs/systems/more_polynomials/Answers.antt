use Rattle.std.proofs.Common.{◌++◌, ap, ap₂, codes, sym, ◌∙◌}
use Rattle.descriptions.proofs.Polynomials.{more-push}
use Rattle.descriptions.proofs.systems.more_polynomials.Goals as goal

pub loop-relation-preserved : goal.loop-relation-preserved
loop-relation-preserved c =
    c.in_ok-push_str-2.ensures.bytes
    ∙ ap₂ (λ s t. s ++ t)
    (c.in_ok-push_str.ensures.bytes ∙ ap (λ s. s ++ codes ",\n  ") c.loop-relation.invariant)
    (c.as_str.ensures.value ∙ c.in_ok-line.ensures)
    ∙ sym (more-push c.args.letters c.args.relations.now c.loop-relation.relation-index _
    c.loop-relation-test.true)
