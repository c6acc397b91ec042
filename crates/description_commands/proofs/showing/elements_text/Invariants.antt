use Rattle.std.specs.String.{string_bytes}
use Rattle.description_commands.specs.Shown.{AreElementLines}
use Rattle.description_commands.proofs.showing.elements_text.Given as goal

abbrev pub invariant-loop-element : goal.invariant-loop-element
invariant-loop-element l = AreElementLines l.certified l.element (string_bytes l.text)
