use Rattle.std.proofs.Common.{◌≡◌}
use Rattle.std.specs.String.{string_bytes}
use Rattle.relations.specs.Printed.{factors_text}
use Rattle.label_descriptions.proofs.words.factors_text.Given as goal

abbrev pub invariant-loop-letter : goal.invariant-loop-letter
invariant-loop-letter l = string_bytes l.text ≡ factors_text l.notation l.letter l.word
