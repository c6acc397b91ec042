use Rattle.std.proofs.Common.{◌++◌, ap, ap₂, codes, sym, ◌∙◌}
use Rattle.descriptions.proofs.NumberTexts.{numbers-push}
use Rattle.descriptions.proofs.multiplication.more_numbers.Goals as goal

pub loop-x-preserved : goal.loop-x-preserved
loop-x-preserved c =
    c.in_ok-push_str-2.ensures.bytes
    ∙ ap₂ (λ s t. s ++ t)
    (c.in_ok-push_str.ensures.bytes ∙ ap (λ s. s ++ codes ",") c.loop-x.invariant)
    (c.as_str.ensures.value ∙ c.in_ok-number.ensures)
    ∙ sym (numbers-push c.args.elements.now c.loop-x.x-index _ c.loop-x-test.true)
