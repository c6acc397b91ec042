use Rattle.std.proofs.Common.{◌++◌, ap, ap₂, sym, ◌∙◌}
use Rattle.relations.proofs.Spelling.{more-word}
use Rattle.relations.proofs.text.more_words.Goals as goal

pub loop-element-preserved : goal.loop-element-preserved
loop-element-preserved c =
    c.in_ok-push_str-2.ensures.bytes
    ∙ ap₂ (λ s t. s ++ t)
    (c.in_ok-push_str.ensures.bytes ∙ ap (λ s. s ++ c.args.between.now) c.loop-element.invariant)
    (c.as_str.ensures.value ∙ c.in_ok-word.ensures)
    ∙ sym (more-word c.args.notation c.args.letters c.args.between.now c.args.words.now c.args.elements.now
    c.loop-element.element-index c.loop-element-test.true)
