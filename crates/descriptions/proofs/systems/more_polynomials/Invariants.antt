use Rattle.std.proofs.Common.{◌≡◌, take}
use Rattle.std.specs.String.{string_bytes}
use Rattle.descriptions.specs.Systems.{more_polynomials}
use Rattle.descriptions.proofs.systems.more_polynomials.Given as goal

abbrev pub invariant-loop-relation : goal.invariant-loop-relation
invariant-loop-relation l =
    string_bytes l.text ≡ more_polynomials l.letters (take l.relation-index l.relations)
