use Rattle.std.proofs.Common.{◌≡◌, take}
use Rattle.std.specs.String.{string_bytes}
use Rattle.relations.specs.Printed.{more_words}
use Rattle.relations.proofs.text.more_words.Given as goal

abbrev pub invariant-loop-element : goal.invariant-loop-element
invariant-loop-element l =
    string_bytes l.text ≡ more_words l.notation l.letters l.between l.words (take l.element-index l.elements)
