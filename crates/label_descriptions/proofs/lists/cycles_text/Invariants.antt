use Rattle.std.proofs.Common.{◌≡◌}
use Rattle.std.specs.String.{string_bytes}
use Rattle.label_descriptions.specs.Lists.{cycles_text}
use Rattle.label_descriptions.proofs.lists.cycles_text.Given as goal

abbrev pub invariant-loop-k : goal.invariant-loop-k
invariant-loop-k l = string_bytes l.text ≡ cycles_text l.notation l.cycles l.k
