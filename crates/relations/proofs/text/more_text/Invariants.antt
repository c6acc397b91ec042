use Rattle.std.proofs.Common.{◌≡◌, take}
use Rattle.std.specs.String.{string_bytes}
use Rattle.relations.specs.Printed.{more_text}
use Rattle.relations.proofs.text.more_text.Given as goal

abbrev pub invariant-loop-relation : goal.invariant-loop-relation
invariant-loop-relation l =
    string_bytes l.text ≡ more_text l.notation l.letters l.between (take l.relation-index l.relations)
