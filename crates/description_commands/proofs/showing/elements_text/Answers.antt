use Rattle.std.proofs.Common.{◌∙◌, ◌++◌, ◌+◌, ℕ, List, ap, sym, subst}
use Rattle.std.specs.String.{string_bytes}
use Rattle.description_commands.specs.Shown.{AreElementLines, element_line, letter_of}
use Rattle.description_commands.specs.Shown.AreElementLines.{NoElement, NextElement}
use Rattle.description_commands.proofs.showing.elements_text.Goals as goal

pub loop-element-preserved : goal.loop-element-preserved
loop-element-preserved c =
    let line = c.as_str-in-loop-element.ensures.value ∙ c.in_ok-line.ensures
    ∙ ap (λ (l : List ℕ). element_line c.loop-element.element l c.as_str.result.now)
    c.letter-letter.ensures
    ∙ ap (λ (t : List ℕ). element_line c.loop-element.element
    (letter_of c.args.certified.now c.loop-element.element) t)
    (c.as_str.ensures.value ∙ c.in_ok-position.ensures.bytes) in
    subst (λ (t : List ℕ). AreElementLines c.args.certified.now (c.loop-element.element + 1) t)
    (sym (c.in_ok-push_str.ensures.bytes
    ∙ ap (λ (t : List ℕ). string_bytes c.loop-element.text ++ t) line))
    (NextElement c.loop-element.element _ c.loop-element.invariant c.in_ok-position_of.ensures.keys)

pub loop-element-init : goal.loop-element-init
loop-element-init c =
    subst (λ (t : List ℕ). AreElementLines c.args.certified.now 0 t) (sym c.new-text.ensures.bytes)
    NoElement
