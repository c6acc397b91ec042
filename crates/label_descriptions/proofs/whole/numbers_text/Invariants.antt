use Rattle.std.proofs.Common.{◌≡◌}
use Rattle.std.specs.String.{string_bytes}
use Rattle.label_descriptions.specs.Whole.{numbers_text}
use Rattle.label_descriptions.proofs.whole.numbers_text.Given as goal

abbrev pub invariant-loop-k : goal.invariant-loop-k
invariant-loop-k l = string_bytes l.text ≡ numbers_text l.numbers l.k
