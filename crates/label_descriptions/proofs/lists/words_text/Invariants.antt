use Rattle.std.proofs.Common.{◌≡◌}
use Rattle.std.specs.String.{string_bytes}
use Rattle.label_descriptions.specs.Lists.{words_text}
use Rattle.label_descriptions.proofs.lists.words_text.Given as goal

abbrev pub invariant-loop-k : goal.invariant-loop-k
invariant-loop-k l = string_bytes l.text ≡ words_text l.notation l.letters l.words l.k
