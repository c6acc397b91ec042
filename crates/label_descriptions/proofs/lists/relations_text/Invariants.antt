use Rattle.std.proofs.Common.{◌≡◌}
use Rattle.std.specs.String.{string_bytes}
use Rattle.label_descriptions.specs.Lists.{relations_text}
use Rattle.label_descriptions.proofs.lists.relations_text.Given as goal

abbrev pub invariant-loop-k : goal.invariant-loop-k
invariant-loop-k l = string_bytes l.text ≡ relations_text l.notation l.letters l.rules l.k
