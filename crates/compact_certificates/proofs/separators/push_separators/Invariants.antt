use Rattle.std.proofs.Common.{◌≡◌, ◌+◌, ◌-◌, ◌++◌, map}
use Rattle.misere_theory.specs.Quotients.{Claim}
use Rattle.misere_theory.specs.Certificates.{pairs_with}
use Rattle.compact_certificates.specs.Separators.{separator_of}
use Rattle.compact_certificates.specs.Lanes.{AreContexts}
use Rattle.compact_certificates.proofs.separators.push_separators.Given as goal

-- the pairs of x and the elements up to y are told
abbrev pub invariant-loop-y : goal.invariant-loop-y
invariant-loop-y g l =
    (c : Claim) → AreContexts c l.count l.lanes → c.order ≡ l.order
    → l.found.items
    ≡ l.initial.found.items ++ map (separator_of c) (pairs_with l.x (l.x + 1) (l.y - (l.x + 1)))
