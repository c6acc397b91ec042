use Rattle.std.proofs.Common.{◌≡◌, ◌<◌, ℕ}
use Rattle.std.specs.Prelude.{◌||◌, ◌==◌}
use Rattle.misere_theory.specs.Certificates.{claim_of}
use Rattle.descriptions.proofs.tame.is_portion.Given as goal

abbrev pub invariant-loop-x : goal.invariant-loop-x
invariant-loop-x l = (x : ℕ) → x < l.x
    → (claim_of l.certified).portion x ≡ ((x == l.a) || (x == l.e))
