use Rattle.std.proofs.Common.{ℕ, List, subst}
use Rattle.verdict_commands.specs.Checks.{JudgesInfinite}
use Rattle.verdict_commands.proofs.InfiniteGiven.{finds_all}
use Rattle.verdict_commands.proofs.endless.found.Goals as goal

pub returns-clause-found : goal.returns-clause-found
returns-clause-found g c =
    finds_all _ c.in_ok-bytes.bytes.items c.in_ok-found.found c.in_ok-bytes.ensures.bytes
    (subst (λ (bytes : List ℕ). JudgesInfinite bytes c.in_ok-found.found)
    c.deref.ensures.value c.in_ok-found.ensures)
