use Rattle.std.proofs.Common.{◌≡◌}
use Rattle.std.specs.String.{string_bytes}
use Rattle.descriptions.specs.Systems.{variables_text}
use Rattle.descriptions.proofs.systems.variables_text.Given as goal

abbrev pub invariant-loop-k : goal.invariant-loop-k
invariant-loop-k l = string_bytes l.text ≡ variables_text l.letters l.k
