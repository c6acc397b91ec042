use Rattle.std.proofs.Common.{[], ◌++◌, sym, ap, subst, ◌∙◌}
use Rattle.std.specs.String.{string_bytes}
use Rattle.descriptions.specs.Structure.{AreLines}
use Rattle.descriptions.specs.Structure.AreLines.{NoLine}
use Rattle.descriptions.proofs.StructureTexts.{lines-next}
use Rattle.descriptions.proofs.structure.lines_text.Goals as goal

pub loop-e-init : goal.loop-e-init
loop-e-init c =
    subst
    (AreLines c.args.table.now c.args.letters c.args.words.now c.args.listing.now [])
    (sym c.new-text.ensures.bytes) NoLine

pub loop-e-preserved : goal.loop-e-preserved
loop-e-preserved c =
    lines-next c.args.table.now c.args.letters c.args.words.now c.args.listing.now
    c.args.idempotents.now (string_bytes c.loop-e.text) (string_bytes c.in_ok-more.more)
    (string_bytes c.push_str.new.self) c.loop-e.e-index 0 c.loop-e-test.true c.loop-e.invariant
    c.in_ok-more.ensures
    (c.in_ok-push_str.ensures.bytes
    ∙ ap (λ s. string_bytes c.loop-e.text ++ s) c.as_str.ensures.value)
