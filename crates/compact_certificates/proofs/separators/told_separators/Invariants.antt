use Rattle.std.proofs.Common.{◌≡◌, ◌-◌, ◌++◌, map}
use Rattle.misere_theory.specs.Quotients.{Claim}
use Rattle.misere_theory.specs.Certificates.{pairs_from}
use Rattle.compact_certificates.specs.Separators.{separator_of, separators_of}
use Rattle.compact_certificates.specs.Lanes.{AreContexts}
use Rattle.compact_certificates.proofs.separators.told_separators.Given as goal

-- behind what is found the pairs from x on are left
abbrev pub invariant-loop-x : goal.invariant-loop-x
invariant-loop-x g l =
    (c : Claim) → AreContexts c l.count l.lanes → c.order ≡ l.order
    → l.found.items ++ map (separator_of c) (pairs_from l.x (l.order - l.x)) ≡ separators_of c
